-- The rows of a line, and of the lines of a snippet, part by part.
use Rattle.std.specs.Prelude.{ℕ, List, [], ◌∷◌, ◌++◌, map, filter, reverse, Option}
use Rattle.std.specs.Prelude.{Bool, not, ◌+◌, nat_le, length}
use Rattle.std.specs.Option.{option_map_or}
use Rattle.codespan_core.specs.Labels.{LabelModel, LaneMark, is_empty, multi_line_labels}
use Rattle.codespan_output.specs.CharMetrics.{leading_whitespace}
use Rattle.codespan_core.specs.Streams.{Stream, space}
use Rattle.codespan_output.specs.Rows.{RowContext, Line, Row, BreakRow, CaretRow, PointerRow}
use Rattle.codespan_output.specs.Rows.{HangingRow, UnderlineRow}
use Rattle.codespan_output.specs.Rows.{has_underline, row_if_any, rows_of}
use Rattle.codespan_output.specs.RowParts.{gutters}
use Rattle.codespan_output.specs.Snippets.{LabeledFileModel}

-- the caret row of a line that has these labels, if it has any
abbrev pub caret_rows : Line → List LabelModel → List Row
caret_rows line labels = row_if_any labels (CaretRow line)

-- where these labels hang: the pointers, and a row for each message, that of the last label first
abbrev pub pointer_and_hanging_rows : Line → List LabelModel → List Row
pointer_and_hanging_rows line hanging_labels =
    row_if_any hanging_labels (PointerRow line) ++ map (HangingRow line) (reverse hanging_labels)

-- the underlines, in the order of the lanes
abbrev pub underline_rows : Line → List Row
underline_rows line =
    map (UnderlineRow line)
    (filter (λ (m : LaneMark). has_underline (leading_whitespace line.text) m.multi_label)
    line.lanes.lane_marks)

-- how many bytes of white space a line begins with
abbrev pub leading_of : Line → ℕ
leading_of line = leading_whitespace line.text

-- what the caret, pointer and hanging rows of a line begin with
abbrev pub row_start : RowContext → Line → Stream
row_start context line = gutters context (CaretRow line) line.lanes ++ space

-- the rows of a line
abbrev pub line_rows : (ℕ → Line) → ℕ → List Row
line_rows line l = rows_of (line l)

-- the row of a break before a line
abbrev pub break_rows : (ℕ → Line) → ℕ → List Row
break_rows line d = BreakRow (line d).lanes ∷ []

-- what is between `previous` and a line: nothing where the line is the first one
abbrev pub before_line : {A : Type 0} → (ℕ → ℕ → List A) → Option ℕ → ℕ → List A
before_line between previous d = option_map_or (λ c. between c d) previous []

-- the list has an element
abbrev pub has_any : {A : Type 0} → List A → Bool
has_any xs = not (is_empty xs)

-- there is a break between two consecutive drawn lines: two or more lines are left out there
abbrev pub has_break_between : ℕ → ℕ → Bool
has_break_between c d = nat_le (c + 3) d

-- how many lanes a file has
abbrev pub num_multi_labels : LabeledFileModel → ℕ
num_multi_labels s = length (multi_line_labels s.file s.labels)
