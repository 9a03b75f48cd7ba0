-- Lines that fit a width, and their rows.
use Rattle.std.specs.Prelude.{ℕ, ◌+◌, ◌-◌, ◌*◌, nat_lt, nat_le, if◌then◌else◌}
use Rattle.std.specs.Prelude.{List, [], ◌∷◌, ◌++◌, length, map, take, drop, Option, Some}
use Rattle.std.specs.Prelude.{None, codes}
use Rattle.codespan_core.specs.Labels.{LabelModel, LaneMark, MultiLabel, Top, Left, Bottom}
use Rattle.codespan_output.specs.Carets.{max_label_end}
use Rattle.codespan_output.specs.CharMetrics.{char_metrics, width_of}
use Rattle.codespan_output.specs.FittedParts.{Piece, Kept, Dots, unit_bytes, shortened}
use Rattle.codespan_output.specs.Rows.{RowContext, Lanes, Line, Row, SourceRow, CaretRow}
use Rattle.codespan_output.specs.Rows.{PointerRow, HangingRow, UnderlineRow}

-- ---- cells

-- one cell where a label ends past the text, since carets may be there
abbrev pub past_end : Line → ℕ
past_end line = if nat_lt (length line.text) (max_label_end line.labels) then 1 else 0

-- the cells of a line
abbrev pub line_cells : ℕ → Line → ℕ
line_cells tab line = width_of (char_metrics tab line.text) + past_end line

-- the cells of a width that the gutter leaves: it has the padding, the border with a space on each
-- side of it, and two for each lane
abbrev pub room : ℕ → ℕ → Lanes → ℕ
room width padding lanes = width - (padding + 3 + 2 * lanes.count)

-- ---- text and byte indices of a line that is shortened

-- what stands for the units that are left out: three full stops, each a byte and a cell
abbrev pub dots : List ℕ
dots = codes "..."

-- the text that these pieces of a text make
abbrev pub shown_text : List Piece → List ℕ → List ℕ
shown_text [] text = text
shown_text (Kept u ∷ ps) text = take u.bytes text ++ shown_text ps (drop u.bytes text)
shown_text (Dots us ∷ ps) text = dots ++ shown_text ps (drop (unit_bytes us) text)

-- where a byte index of the text is in the text that is shown: one that is left out where the dots
-- start
abbrev pub moved : List Piece → ℕ → ℕ
moved [] x = x
moved (Kept u ∷ ps) x = if nat_lt x u.bytes then x else u.bytes + moved ps (x - u.bytes)
moved (Dots us ∷ ps) x =
    if nat_lt x (unit_bytes us) then 0 else length dots + moved ps (x - unit_bytes us)

-- a label there
abbrev pub moved_label : List Piece → LabelModel → LabelModel
moved_label ps x = record x { start = moved ps x.start; end = moved ps x.end }

-- a multi-line label mark there
abbrev pub moved_multi_label : List Piece → MultiLabel → MultiLabel
moved_multi_label ps (Top start) = Top (moved ps start)
moved_multi_label ps Left = Left
moved_multi_label ps (Bottom end message) = Bottom (moved ps end) message

-- a lane mark there
abbrev pub moved_mark : List Piece → LaneMark → LaneMark
moved_mark ps m = record m { multi_label = moved_multi_label ps m.multi_label }

-- the line that these pieces of a line make
abbrev pub shown_line : List Piece → Line → Line
shown_line ps line = record line {
  text = shown_text ps line.text;
  labels = map (moved_label ps) line.labels;
  lanes = record line.lanes { lane_marks = map (moved_mark ps) line.lanes.lane_marks };
}

-- ---- lines and rows that fit

-- the pieces of a line that fits a width; none, by which all is shown, where there is no width or
-- the whole line fits
abbrev pub fitted_pieces : Option ℕ → RowContext → Line → List Piece
fitted_pieces None context line = []
fitted_pieces (Some width) context line =
    if nat_le (line_cells context.tab_width line) (room width context.padding line.lanes) then []
    else shortened (room width context.padding line.lanes - past_end line) context.tab_width line

-- the line that fits a width
abbrev pub fitted : Option ℕ → RowContext → Line → Line
fitted width context line = shown_line (fitted_pieces width context line) line

-- a row of the line that fits a width, in place of that of a line
abbrev pub fitted_row : Option ℕ → RowContext → Row → Row
fitted_row width context (SourceRow line) = SourceRow (fitted width context line)
fitted_row width context (CaretRow line) = CaretRow (fitted width context line)
fitted_row width context (PointerRow line) = PointerRow (fitted width context line)
fitted_row width context (HangingRow line x) =
    HangingRow (fitted width context line) (moved_label (fitted_pieces width context line) x)
fitted_row width context (UnderlineRow line m) =
    UnderlineRow (fitted width context line) (moved_mark (fitted_pieces width context line) m)
fitted_row width context row = row
