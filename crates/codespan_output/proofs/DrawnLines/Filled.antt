-- For `rows_are_of_shown_lines` and `breaks_replace_lines`: drawn lines with their breaks, from the
-- shown lines alone. Between two consecutive ones there is nothing, one filled line, or a break.
use Rattle.codespan_core.proofs.Std.{◌≡◌, ℕ, ◌≤◌, Bool, true, false, cond, nat_lt}
use Rattle.codespan_core.proofs.Std.{List, Option, refl, arith, nat_tests}
use Rattle.codespan_core.specs.FileModel.{line_count}
use Rattle.codespan_output.specs.Types.{Config}
use Rattle.codespan_output.specs.{is_shown, RowsAreOfShownLines, Row, break_between}
use Rattle.codespan_output.specs.{LabeledFileModel, line_at}
use Rattle.codespan_output.proofs.DrawnLines.Filling.{lines-shown}
use Rattle.codespan_output.specs.Private.{before_line, line_rows, break_rows}

-- what is before a drawn line
abbrev pub breaks_before : LabeledFileModel → Option ℕ → ℕ → List Row
breaks_before s = before_line (break_between (break_rows (line_at s)))

-- no line past the file's last one is shown
pub none_past : (config : Config) (s : LabeledFileModel) (l : ℕ) → line_count s.file ≤ l
    → is_shown config s.file s.labels l ≡ false
none_past config s l h =
    let past : nat_lt l (line_count s.file) ≡ false = grind (arith, nat_tests) in
    simp past

-- the drawn lines with their breaks are the shown lines with what is between them
pub rows_of_shown_lines : (config : Config) (s : LabeledFileModel) → RowsAreOfShownLines config s
rows_of_shown_lines config s =
    let rows = line_rows (line_at s) in
    let shown = is_shown config s.file s.labels in
    lines-shown rows rows (break_rows (line_at s)) shown rows (λ l. one (rows l) (shown l))
    (line_count s.file) (none_past config s)
  where
    one : (rows : List Row) (b : Bool) → rows ≡ cond b rows rows
    one rows true = refl
    one rows false = refl
