-- The laws of drawn lines, breaks, and line numbers.
use Rattle.std.specs.Prelude.{◌≡◌, ℕ, ◌+◌, ◌<◌, ◌≤◌, ◌↔◌, Bool, false}
use Rattle.std.specs.Prelude.{List, ◌∷◌, Contains, map, filter, filter_map, Option, Some}
use Rattle.std.specs.Prelude.{None, IsTrue, ◌*◌, true, sum_by, count_by, []}
use Rattle.std.specs.List.{range_with_len}
use Rattle.codespan_output.specs.Types.{Config, Layout}
use Rattle.codespan_core.specs.FileModel.{FileModel, line_count}
use Rattle.codespan_core.specs.Labels.{LabelModel}
use Rattle.codespan_output.specs.declared.lane_shapes.Shape.TheVariants.{Bar}
use Rattle.codespan_output.specs.Lanes.{is_unbroken}
use Rattle.codespan_output.specs.Lines.{drawn_lines, is_shown}
use Rattle.codespan_output.specs.Rows.{Lanes, Row, BreakRow, SourceRow}
use Rattle.codespan_output.specs.Snippets.{LabeledFileModel, rows_of_drawn, rows_of_shown, line_at}
use Rattle.codespan_output.specs.Padding.{padding_of, count_digits}
use Rattle.codespan_output.specs.LaneLaws.{shape_in, HasLane, IsBarLine}
use Rattle.codespan_output.specs.Sequences.{break_between, in_sequence}

-- the shown lines of a file, all of which it has
abbrev pub shown_lines : Config → LabeledFileModel → List ℕ
shown_lines config s =
    filter (is_shown config s.file s.labels) (range_with_len 0 (line_count s.file))

-- the rows of drawn lines with their breaks follow from the shown lines
abbrev pub RowsAreOfShownLines : Config → LabeledFileModel → Type 0
RowsAreOfShownLines config s =
    rows_of_drawn s None (drawn_lines config s.file s.labels)
    ≡ rows_of_shown (line_at s) None (shown_lines config s)

-- ---- breaks

-- of each two consecutive lines in this list with two or more lines between them the later one
abbrev pub lines_after_breaks : List ℕ → List ℕ
lines_after_breaks = in_sequence (λ l. l) (break_between (λ d. d ∷ [])) (λ _. []) None

-- the lanes of a break row
abbrev pub break_lanes : Row → Option Lanes
break_lanes (BreakRow lanes) = Some lanes
break_lanes _ = None

-- these rows have one break row for each of `lines_after_breaks`, in order, with that line's lanes
abbrev pub BreaksReplaceLines : Config → LabeledFileModel → List Row → Type 0
BreaksReplaceLines config s rows =
    filter_map break_lanes rows
    ≡ map (λ l. (line_at s l).lanes) (lines_after_breaks (shown_lines config s))

-- a lane has a bar in a break row exactly where its label covers every line that is left out there
abbrev pub BreaksHaveBars : Config → Layout → LabeledFileModel → Type 0
BreaksHaveBars config layout s = (c d lane : ℕ) (x : LabelModel)
    → IsTrue (is_shown config s.file s.labels c) → IsTrue (is_shown config s.file s.labels d)
    → c + 3 ≤ d
    → ((l : ℕ) → c < l → l < d → is_shown config s.file s.labels l ≡ false)
    → HasLane s lane x
    → (shape_in layout (BreakRow (line_at s d).lanes) lane ≡ Bar)
    ↔ ((l : ℕ) → c < l → l < d → IsBarLine s.file x l)

-- ---- how many rows there are

-- the row is a source row
abbrev pub is_source_row : Row → Bool
is_source_row (SourceRow line) = true
is_source_row _ = false

-- how many lines one label may show by the configuration: two, and all its context lines
abbrev pub max_shown_lines : Config → ℕ
max_shown_lines config =
    2 + config.before_label_lines + config.after_label_lines + config.start_context_lines
    + config.end_context_lines

-- these rows have at most twice as many source rows as the file's labels may show lines
abbrev pub SourceRowsAreFew : Config → LabeledFileModel → List Row → Type 0
SourceRowsAreFew config s rows =
    count_by is_source_row rows ≤ 2 * sum_by (λ _. max_shown_lines config) s.labels

-- no line of the file has a lower number than the line before it
abbrev pub NumbersAscend : FileModel → Type 0
NumbersAscend f = (i : ℕ) → i + 1 < line_count f → f.line_number i ≤ f.line_number (i + 1)

-- every drawn line's number fits the padding: in the unbroken layout, and in the classic one where
-- the configuration shows no lines after labels and the numbers never fall
abbrev pub PaddingFits : Config → List LabeledFileModel → Type 0
PaddingFits config ss =
    (is_unbroken config.layout ≡ false → (config.after_label_lines ≡ 0)
    × ((s : LabeledFileModel) → Contains ss s → NumbersAscend s.file))
    → (s : LabeledFileModel) (l : ℕ) → Contains ss s
    → Contains (drawn_lines config s.file s.labels) l
    → count_digits (s.file.line_number l) ≤ padding_of config ss
