-- Which lines of a file are drawn, and where a break is.
use Rattle.std.specs.Prelude.{ℕ, ◌+◌, ◌-◌, Bool, ◌&&◌, ◌||◌, ◌==◌, nat_lt}
use Rattle.std.specs.Prelude.{nat_le, List, filter}
use Rattle.std.specs.List.{list_any, range_with_len}
use Rattle.codespan_output.specs.Types.{Config}
use Rattle.codespan_core.specs.FileModel.{FileModel, line_count}
use Rattle.codespan_core.specs.Labels.{LabelModel, first_line, last_line}

-- a label from line `s` to line `e` spans line `l`: its end, or a line between its ends
abbrev pub spans : ℕ → ℕ → ℕ → Bool
spans s e l = (l == s) || (l == e) || (nat_le s l && nat_le l e)

-- line `l` is one of the context lines around such a label
abbrev pub is_around : Config → ℕ → ℕ → ℕ → Bool
is_around config s e l =
    (nat_lt l s && nat_le s (l + config.before_label_lines))
    || (nat_lt e l && nat_le l (e + config.after_label_lines))

-- such a label shows line `l`: an end of it, a line around it, or a line inside it near an end
abbrev pub shows : Config → ℕ → ℕ → ℕ → Bool
shows config s e l =
    (l == s) || (l == e) || is_around config s e l
    || (nat_lt s l && nat_lt l e
    && (nat_le l (s + config.start_context_lines) || nat_le e (l + config.end_context_lines)))

-- some label shows the line, and the file has it
abbrev pub is_shown : Config → FileModel → List LabelModel → ℕ → Bool
is_shown config f labels l =
    nat_lt l (line_count f)
    && list_any (λ x. shows config (first_line f x) (last_line f x) l) labels

-- shown lines are drawn, and so is a line between two of them
abbrev pub is_drawn : Config → FileModel → List LabelModel → ℕ → Bool
is_drawn config f labels l =
    is_shown config f labels l
    || (nat_lt 0 l && is_shown config f labels (l - 1) && is_shown config f labels (l + 1))

-- the drawn lines of a file
abbrev pub drawn_lines : Config → FileModel → List LabelModel → List ℕ
drawn_lines config f labels = filter (is_drawn config f labels) (range_with_len 0 (line_count f))
