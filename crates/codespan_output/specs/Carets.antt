-- The carets under a line: in which cells they are, and of which style.
use Rattle.std.specs.Prelude.{ℕ, ◌+◌, max, min, Bool, ◌&&◌, nat_lt, List, fold}
use Rattle.std.specs.Prelude.{Option, Some, None, if◌then◌else◌}
use Rattle.std.specs.List.{list_any}
use Rattle.std.specs.Str.{byte}
use Rattle.codespan_output.specs.Types.{LabelStyle, Primary, Secondary, Chars}
use Rattle.codespan_core.specs.Labels.{LabelModel, is_primary}
use Rattle.codespan_output.specs.declared.char_metrics.Metrics.{Metrics}

-- the label has a byte from `start` to before `end`
abbrev pub is_overlapping : LabelModel → ℕ → ℕ → Bool
is_overlapping x start end = nat_lt (max x.start start) (min x.end end)

-- the label has a byte of the character
abbrev pub covers : LabelModel → Metrics → Bool
covers x c = is_overlapping x c.byte_index (c.byte_index + c.bytes)

-- the style of the labels for which this holds: primary where one of them is, none where none is
abbrev pub style_of_any : (LabelModel → Bool) → List LabelModel → Option LabelStyle
style_of_any holds labels =
    if list_any (λ x. is_primary x && holds x) labels then Some Primary
    else if list_any holds labels then Some Secondary
    else None

-- the style under a character: that of the labels over it
abbrev pub style_under : List LabelModel → Metrics → Option LabelStyle
style_under labels c = style_of_any (λ x. covers x c) labels

-- the greatest end of the labels, 0 where there is none
abbrev pub max_label_end : List LabelModel → ℕ
max_label_end labels = fold (λ m (x : LabelModel). max m x.end) 0 labels

-- ---- the carets of cells

-- the caret of a style, and a space for none
abbrev pub caret_for : Chars → Option LabelStyle → ℕ
caret_for chars None = byte " "
caret_for chars (Some Primary) = chars.single_primary_caret
caret_for chars (Some Secondary) = chars.single_secondary_caret
