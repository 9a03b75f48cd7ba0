-- For `LanesStay`: what a row shows in each lane does not depend on the width that its line fits.
use Rattle.codespan_core.proofs.Std.{◌≡◌, ℕ, ◌==◌, ◌&&◌, Bool, true, false, List, [], ◌∷◌, map}
use Rattle.codespan_core.proofs.Std.{Option, Some, None, refl, ap, AllByRecursion, nat_lt}
use Rattle.codespan_core.proofs.Std.{if◌then◌else◌}
use Rattle.codespan_core.specs.Labels.{LaneMark, MultiLabel, Top, Left, Bottom}
use Rattle.codespan_output.specs.declared.lane_shapes.Shape.{Shape}
use Rattle.codespan_output.specs.declared.lane_shapes.Shape.TheVariants.{Space, Bar, TopCorner}
use Rattle.codespan_output.specs.{Row, RowContext, Line, HeaderRow, SnippetStartRow, EmptyRow}
use Rattle.codespan_output.specs.{BreakRow, SourceRow, CaretRow, PointerRow, HangingRow}
use Rattle.codespan_output.specs.{UnderlineRow, FirstNoteRow, LaterNoteRow, FinalRow}
use Rattle.codespan_output.specs.{LaneRowKind, Source, EmptyOrBreak, SingleLabels, Underline}
use Rattle.codespan_output.specs.{row_shape, shape_of, lane_mark_in, begins_in_source_row}
use Rattle.codespan_output.specs.{is_unbroken, leading_whitespace, Piece, fitted, fitted_pieces}
use Rattle.codespan_output.specs.{moved, moved_mark, moved_multi_label, LanesStay}
use Rattle.codespan_output.proofs.Fitting.CanFit.{LineCanFit, RowCanFit}
use Rattle.codespan_output.proofs.Fitting.FittedPieces.{fitted-keeps, whole-keeps}
use Rattle.codespan_output.proofs.Fitting.FittedRows.{top-corner}
use Rattle.codespan_output.proofs.Fitting.KeptLabels.{MarkEndIsKept}
use Rattle.codespan_output.proofs.Utf8.ListElements.{all-weaker}

-- the kind of a row where its line is shown
shown_kind : List Piece → LaneRowKind → LaneRowKind
shown_kind ps Source = Source
shown_kind ps EmptyOrBreak = EmptyOrBreak
shown_kind ps SingleLabels = SingleLabels
shown_kind ps (Underline m) = Underline (moved_mark ps m)

module _ (context : RowContext) (lane : ℕ) (ps : List Piece) (leading shown_leading : ℕ) where
  -- a lane mark keeps its shape where it has it in each kind of row
  marks-stay : (shape shown_shape : MultiLabel → Shape) (ms : List LaneMark)
      → AllByRecursion
      (λ (m : LaneMark). shown_shape (moved_multi_label ps m.multi_label) ≡ shape m.multi_label) ms
      → shape_of shown_shape (lane_mark_in (map (moved_mark ps) ms) lane)
      ≡ shape_of shape (lane_mark_in ms lane)
  marks-stay shape shown_shape [] h = refl
  marks-stay shape shown_shape (m ∷ ms) h =
      by_test (m.lane == lane) (marks-stay shape shown_shape ms h.1)
    where
      by_test : (b : Bool)
          → shape_of shown_shape (lane_mark_in (map (moved_mark ps) ms) lane)
          ≡ shape_of shape (lane_mark_in ms lane)
          → shape_of shown_shape
          (if b then Some (moved_mark ps m) else lane_mark_in (map (moved_mark ps) ms) lane)
          ≡ shape_of shape (if b then Some m else lane_mark_in ms lane)
      by_test true rest = h.0
      by_test false rest = rest

  -- a corner is in the source row, or not, as where the line is whole
  abbrev CornerStays : ℕ → Type 0
  CornerStays start = begins_in_source_row shown_leading (moved ps start)
      ≡ begins_in_source_row leading start

  shape-stays : (kind : LaneRowKind) (m : MultiLabel) → MarkEndIsKept ps leading m
      → ((start : ℕ) → MarkEndIsKept ps leading (Top start) → CornerStays start)
      → row_shape context.layout shown_leading (shown_kind ps kind) lane (moved_multi_label ps m)
      ≡ row_shape context.layout leading kind lane m
  unfolding shown_kind
  shape-stays Source (Top start) h corner =
      ap (λ b. if b then TopCorner else Space) (corner start h)
  shape-stays Source Left h corner = refl
  shape-stays Source (Bottom end message) h corner = refl
  shape-stays EmptyOrBreak (Top start) h corner = refl
  shape-stays EmptyOrBreak Left h corner = refl
  shape-stays EmptyOrBreak (Bottom end message) h corner = refl
  shape-stays SingleLabels (Top start) h corner =
      ap (λ b. if is_unbroken context.layout && b then Bar else Space) (corner start h)
  shape-stays SingleLabels Left h corner = refl
  shape-stays SingleLabels (Bottom end message) h corner = refl
  shape-stays (Underline n) (Top start) h corner =
      ap
      (λ b. if is_unbroken context.layout && b then Bar
      else if lane == n.lane then TopCorner else if nat_lt lane n.lane then Bar else Space)
      (corner start h)
  shape-stays (Underline n) Left h corner = refl
  shape-stays (Underline n) (Bottom end message) h corner = refl

module _ (width : Option ℕ) (context : RowContext) (lane : ℕ) where
  -- what a row of the line shows in the lane is what that of the line that fits does
  abbrev LineStays : LaneRowKind → Line → Type 0
  LineStays kind line =
      let shown = fitted width context line in
      let ps = fitted_pieces width context line in
      shape_of (row_shape context.layout (leading_whitespace shown.text) (shown_kind ps kind) lane)
      (lane_mark_in shown.lanes.lane_marks lane)
      ≡ shape_of (row_shape context.layout (leading_whitespace line.text) kind lane)
      (lane_mark_in line.lanes.lane_marks lane)

  -- the corners of the line, and its lane marks, stay
  line-from : (kind : LaneRowKind) (line : Line)
      → AllByRecursion
      (λ (m : LaneMark). MarkEndIsKept (fitted_pieces width context line)
      (leading_whitespace line.text) m.multi_label) line.lanes.lane_marks
      → ((start : ℕ)
      → MarkEndIsKept (fitted_pieces width context line) (leading_whitespace line.text) (Top start)
      → CornerStays context lane (fitted_pieces width context line)
      (leading_whitespace line.text) (leading_whitespace (fitted width context line).text) start)
      → LineStays kind line
  line-from kind line marks corner =
      let ps = fitted_pieces width context line in
      let leading = leading_whitespace line.text in
      let shown_leading = leading_whitespace (fitted width context line).text in
      let shape = row_shape context.layout leading kind lane in
      let shown_shape = row_shape context.layout shown_leading (shown_kind ps kind) lane in
      marks-stay context lane ps leading shown_leading shape shown_shape line.lanes.lane_marks
      (all-weaker (λ (m : LaneMark). MarkEndIsKept ps leading m.multi_label)
      (λ (m : LaneMark). shown_shape (moved_multi_label ps m.multi_label) ≡ shape m.multi_label)
      (λ m h. shape-stays context lane ps leading shown_leading kind m.multi_label h corner)
      line.lanes.lane_marks marks)

line-stays : (width : Option ℕ) (context : RowContext) (lane : ℕ) (kind : LaneRowKind)
    (line : Line) → LineCanFit width line → LineStays width context lane kind line
line-stays None context lane kind line h =
    line-from None context lane kind line (whole-keeps context.tab_width line).marks
    (λ start k. refl)
line-stays (Some width) context lane kind line h =
    let keeps = fitted-keeps (Some width) context line h in
    line-from (Some width) context lane kind line keeps.marks
    (top-corner context.tab_width (fitted_pieces (Some width) context line) line h keeps)

lanes-stay : (width : Option ℕ) (context : RowContext) (row : Row) → RowCanFit width row
    → LanesStay width context row
unfolding shown_kind
lanes-stay width context (HeaderRow locus header_text) h lane = refl
lanes-stay width context (SnippetStartRow locus) h lane = refl
lanes-stay width context (EmptyRow lanes) h lane = refl
lanes-stay width context (BreakRow lanes) h lane = refl
lanes-stay width context (SourceRow line) h lane = line-stays width context lane Source line h
lanes-stay width context (CaretRow line) h lane =
    line-stays width context lane SingleLabels line h
lanes-stay width context (PointerRow line) h lane =
    line-stays width context lane SingleLabels line h
lanes-stay width context (HangingRow line x) h lane =
    line-stays width context lane SingleLabels line h
lanes-stay width context (UnderlineRow line m) h lane =
    line-stays width context lane (Underline m) line h
lanes-stay width context (FirstNoteRow note_line) h lane = refl
lanes-stay width context (LaterNoteRow note_line) h lane = refl
lanes-stay width context FinalRow h lane = refl

-- so it is with all rows that can be fitted
pub all-lanes-stay : (width : Option ℕ) (context : RowContext) (rows : List Row)
    → AllByRecursion (RowCanFit width) rows
    → AllByRecursion (LanesStay width context) rows
all-lanes-stay width context rows h =
    all-weaker (RowCanFit width) (LanesStay width context) (lanes-stay width context) rows h
