-- The padding width: how many digits the line numbers of an output have.
use Rattle.std.specs.Prelude.{ℕ, max, List, map, filter, fold, flat_map, length, decimal}
use Rattle.std.specs.Prelude.{if◌then◌else◌}
use Rattle.std.specs.List.{list_any, range_with_len}
use Rattle.codespan_output.specs.Types.{Config}
use Rattle.codespan_core.specs.FileModel.{line_count}
use Rattle.codespan_core.specs.Labels.{first_line, last_line}
use Rattle.codespan_output.specs.Lanes.{is_unbroken}
use Rattle.codespan_output.specs.Lines.{drawn_lines, spans}
use Rattle.codespan_output.specs.Snippets.{LabeledFileModel}

-- how many digits a number has; 0 has one
abbrev pub count_digits : ℕ → ℕ
count_digits n = length (decimal n)

-- the lines whose numbers the padding fits: in the unbroken layout the drawn ones, else those that
-- labels of the file span
abbrev pub numbered_lines : Config → LabeledFileModel → List ℕ
numbered_lines config s =
    if is_unbroken config.layout then drawn_lines config s.file s.labels
    else filter (λ l. list_any (λ x. spans (first_line s.file x) (last_line s.file x) l) s.labels)
    (range_with_len 0 (line_count s.file))

-- the greatest digit count of these lines' numbers, 0 where there is none
abbrev pub padding_of : Config → List LabeledFileModel → ℕ
padding_of config ss =
    fold max 0
    (flat_map
    (λ (s : LabeledFileModel). map (λ l. count_digits (s.file.line_number l))
    (numbered_lines config s))
    ss)
