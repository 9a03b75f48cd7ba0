-- For `outputs_are_utf8`: rows that fit a width are texts where the rows are.
use Rattle.codespan_core.proofs.Std.{ℕ, ◌-◌, nat_le, List, [], ◌∷◌, map, Option, Some, None}
use Rattle.codespan_core.proofs.Std.{sym, subst, chars, cond_both, AllByRecursion, false}
use Rattle.codespan_core.specs.Labels.{LabelModel, MultiLabel, Top, Left, Bottom}
use Rattle.codespan_output.specs.{StreamIsUtf8, Row, RowContext, Line, HeaderRow, SnippetStartRow}
use Rattle.codespan_output.specs.{EmptyRow, BreakRow, SourceRow, CaretRow, PointerRow, HangingRow}
use Rattle.codespan_output.specs.{UnderlineRow, FirstNoteRow, LaterNoteRow, FinalRow, Piece}
use Rattle.codespan_output.specs.{fitted_pieces, fitted_row, line_cells, room, past_end, shortened}
use Rattle.codespan_output.specs.{moved_label, moved_multi_label, units_of, parts_of, pieces_of}
use Rattle.codespan_output.specs.{whole_span, end_spans, needed_spans, fits_at, chosen_parts}
use Rattle.codespan_output.specs.{greatest}
use Rattle.codespan_output.proofs.Fitting.Pieces.{pieces-units}
use Rattle.codespan_output.proofs.Fitting.ShownBytes.{shown-utf8}
use Rattle.codespan_output.proofs.Fitting.Spelled.{PiecesSpell, UnitsSpell, units-spell}
use Rattle.codespan_output.proofs.Fitting.Spelled.{pieces-spell}
use Rattle.codespan_output.proofs.Utf8.Lanes.{MultiLabelIsUtf8, RowIsUtf8}

-- ---- the text

-- the pieces of any line are whole characters of it
parts-spell : (label_spans : ℕ → LabelModel → List (ℕ × ℕ)) (radius tab : ℕ) (line : Line)
    → PiecesSpell tab (pieces_of radius (parts_of label_spans tab line)) (chars line.text)
parts-spell label_spans radius tab line =
    let cs = chars line.text in
    pieces-spell tab (pieces_of radius (parts_of label_spans tab line)) cs
    (subst (λ us. UnitsSpell tab us cs)
    (sym (pieces-units radius (needed_spans label_spans line) false [] 0 (units_of tab cs)))
    (units-spell tab cs))

fitted-spell : (width : Option ℕ) (context : RowContext) (line : Line)
    → PiecesSpell context.tab_width (fitted_pieces width context line) (chars line.text)
fitted-spell None context line = tt
fitted-spell (Some width) context line =
    let tab = context.tab_width in
    let left = room width context.padding line.lanes in
    let cells = left - past_end line in
    let radius = greatest (fits_at cells (chosen_parts cells tab line)) cells in
    cond_both (nat_le (line_cells tab line) left) [] (shortened cells tab line)
    (λ ps. PiecesSpell tab ps (chars line.text)) (λ _. tt)
    (λ _. cond_both (fits_at cells (parts_of whole_span tab line) 0)
    (parts_of whole_span tab line) (parts_of end_spans tab line)
    (λ parts. PiecesSpell tab (pieces_of radius parts) (chars line.text))
    (λ _. parts-spell whole_span radius tab line) (λ _. parts-spell end_spans radius tab line))

-- ---- messages

labels-moved : (ps : List Piece) (xs : List LabelModel)
    → AllByRecursion (λ (x : LabelModel). StreamIsUtf8 x.message) xs
    → AllByRecursion (λ (x : LabelModel). StreamIsUtf8 x.message) (map (moved_label ps) xs)
labels-moved ps [] h = tt
labels-moved ps (x ∷ xs) h = (h.0, labels-moved ps xs h.1)

multi_label-moved : (ps : List Piece) (m : MultiLabel) → MultiLabelIsUtf8 m
    → MultiLabelIsUtf8 (moved_multi_label ps m)
multi_label-moved ps (Top start) h = h
multi_label-moved ps Left h = h
multi_label-moved ps (Bottom end message) h = h

-- ---- rows

-- a row that fits is a text where the row is one
pub row-fitted : (width : Option ℕ) (context : RowContext) (row : Row) → RowIsUtf8 row
    → RowIsUtf8 (fitted_row width context row)
row-fitted width context (HeaderRow locus header_text) h = h
row-fitted width context (SnippetStartRow locus) h = h
row-fitted width context (EmptyRow lanes) h = h
row-fitted width context (BreakRow lanes) h = h
row-fitted width context (SourceRow line) h =
    shown-utf8 context.tab_width (fitted_pieces width context line) line.text h
    (fitted-spell width context line)
row-fitted width context (CaretRow line) h =
    labels-moved (fitted_pieces width context line) line.labels h
row-fitted width context (PointerRow line) h = h
row-fitted width context (HangingRow line x) h = h
row-fitted width context (UnderlineRow line m) h =
    multi_label-moved (fitted_pieces width context line) m.multi_label h
row-fitted width context (FirstNoteRow note_line) h = h
row-fitted width context (LaterNoteRow note_line) h = h
row-fitted width context FinalRow h = h
