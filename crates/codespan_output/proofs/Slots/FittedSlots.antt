-- For `messages_appear_once`: a row has the same messages whatever the width that its line fits.
use Rattle.codespan_core.proofs.Std.{◌≡◌, ℕ, List, [], ◌∷◌, map, Option, Some, None, refl}
use Rattle.codespan_core.proofs.Std.{ap, arith, sum_by, sum_by-cons, AllByRecursion}
use Rattle.codespan_core.specs.Labels.{MultiLabel, Top, Left, Bottom}
use Rattle.codespan_output.specs.{Row, RowContext, Line, HeaderRow, SnippetStartRow, EmptyRow}
use Rattle.codespan_output.specs.{BreakRow, SourceRow, CaretRow, PointerRow, HangingRow}
use Rattle.codespan_output.specs.{UnderlineRow, FirstNoteRow, LaterNoteRow, FinalRow}
use Rattle.codespan_output.specs.{trailing_label, hanging_labels, Piece, fitted, fitted_pieces}
use Rattle.codespan_output.specs.{fitted_row, moved_label, moved_multi_label}
use Rattle.codespan_output.proofs.Fitting.CanFit.{LineCanFit, RowCanFit}
use Rattle.codespan_output.proofs.Fitting.FittedPieces.{fitted-keeps}
use Rattle.codespan_output.proofs.Fitting.HangingLabels.{hanging_labels-moved}
use Rattle.codespan_output.proofs.Fitting.KeptLabels.{ends-stay}
use Rattle.codespan_output.proofs.Fitting.ShortGaps.{line-same}
use Rattle.codespan_output.proofs.Messages.TrailOrHang.{trailing_and_hanging, weight_of}
use Rattle.codespan_output.proofs.Slots.Lines.{label_slots, no_message, sum-map}
use Rattle.codespan_output.proofs.Slots.Rows.{multi_label_slots, row_slots}

module _ (k : ℕ) (context : RowContext) where
  -- the message that trails
  trailing-stays : (width : Option ℕ) (line : Line) → LineCanFit width line
      → row_slots k (CaretRow (fitted width context line)) ≡ row_slots k (CaretRow line)
  trailing-stays None line h =
      ap (λ (shown : Line). weight_of (label_slots k) (trailing_label shown.labels))
      (line-same [] tt line)
  trailing-stays (Some width) line h =
      let ps = fitted_pieces (Some width) context line in
      let keeps = fitted-keeps (Some width) context line h in
      let shown = map (moved_label ps) line.labels in
      let hang = hanging_labels-moved ps keeps.short line.labels
      (ends-stay ps keeps.short line.labels keeps.labels) in
      omega (
        arith,
        trailing_and_hanging (label_slots k) (no_message k) shown,
        trailing_and_hanging (label_slots k) (no_message k) line.labels,
        sum-map (label_slots k) (moved_label ps) line.labels,
        ap (sum_by (label_slots k)) hang,
        sum-map (label_slots k) (moved_label ps) (hanging_labels line.labels),
      )

  mark-stays : (ps : List Piece) (m : MultiLabel)
      → multi_label_slots k (moved_multi_label ps m) ≡ multi_label_slots k m
  mark-stays ps (Top start) = refl
  mark-stays ps Left = refl
  mark-stays ps (Bottom end message) = refl

  row-stays : (width : Option ℕ) (row : Row) → RowCanFit width row
      → row_slots k (fitted_row width context row) ≡ row_slots k row
  row-stays width (HeaderRow locus header_text) h = refl
  row-stays width (SnippetStartRow locus) h = refl
  row-stays width (EmptyRow lanes) h = refl
  row-stays width (BreakRow lanes) h = refl
  row-stays width (SourceRow line) h = refl
  row-stays width (CaretRow line) h = trailing-stays width line h
  row-stays width (PointerRow line) h = refl
  row-stays width (HangingRow line x) h = refl
  row-stays width (UnderlineRow line m) h =
      mark-stays (fitted_pieces width context line) m.multi_label
  row-stays width (FirstNoteRow note_line) h = refl
  row-stays width (LaterNoteRow note_line) h = refl
  row-stays width FinalRow h = refl

  -- the slots of all rows
  pub slots-fitted : (width : Option ℕ) (rows : List Row)
      → AllByRecursion (RowCanFit width) rows
      → sum_by (row_slots k) (map (fitted_row width context) rows) ≡ sum_by (row_slots k) rows
  slots-fitted width [] h = refl
  slots-fitted width (row ∷ rows) h =
      omega (
        arith,
        row-stays width row h.0,
        slots-fitted width rows h.1,
        sum_by-cons (row_slots k) (fitted_row width context row)
            (map (fitted_row width context) rows),
        sum_by-cons (row_slots k) row rows,
      )
