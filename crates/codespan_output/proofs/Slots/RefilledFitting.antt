-- For `messages_appear_once`: what fits a width does not depend on messages.
use Rattle.codespan_core.proofs.Std.{◌≡◌, ℕ, ◌-◌, max, nat_le, List, [], ◌∷◌, ◌++◌, map, flat_map}
use Rattle.codespan_core.proofs.Std.{length, Option, Some, None, refl, sym, ap, ap₂, ◌∙◌}
use Rattle.codespan_core.proofs.Std.{if◌then◌else◌, nat_lt, chars, ◌+◌, false}
use Rattle.codespan_core.specs.Labels.{LabelModel, LaneMark, MultiLabel, Top, Left, Bottom}
use Rattle.codespan_core.specs.Streams.{Stream}
use Rattle.codespan_output.specs.{Line, Row, RowContext, Piece, past_end, line_cells, room}
use Rattle.codespan_output.specs.{mark_spans, whole_span, end_spans}
use Rattle.codespan_output.specs.{or_line_start, leading_whitespace, parts_of, parts_from, units_of}
use Rattle.codespan_output.specs.{fits_at, shortened, pieces_of, greatest, Part, fitted}
use Rattle.codespan_output.specs.{fitted_pieces, fitted_row, moved_label, moved_mark, shown_line}
use Rattle.codespan_output.specs.{moved_multi_label, EmptyRow, BreakRow, SourceRow, CaretRow}
use Rattle.codespan_output.specs.{PointerRow, HangingRow, UnderlineRow, FirstNoteRow, LaterNoteRow}
use Rattle.codespan_output.specs.{FinalRow, HeaderRow, SnippetStartRow}
use Rattle.codespan_output.specs.{width_of, char_metrics, shown_text}
use Rattle.codespan_output.proofs.Slots.RefilledLabels.{fold-map, refilled, refilled_multi_label}
use Rattle.codespan_output.proofs.Slots.RefilledLabels.{refilled_lane_mark, refilled_line}
use Rattle.codespan_output.proofs.Slots.RefilledRows.{refilled_row}

module _ (φ : Stream → Stream) where
  -- ---- what has to be shown

  label-spans : (spans : LabelModel → List (ℕ × ℕ))
      → ((x : LabelModel) → spans (refilled φ x) ≡ spans x) → (xs : List LabelModel)
      → flat_map spans (map (refilled φ) xs) ≡ flat_map spans xs
  label-spans spans same [] = refl
  label-spans spans same (x ∷ xs) = ap₂ (λ a b. a ++ b) (same x) (label-spans spans same xs)

  mark-spans : (n leading : ℕ) (ms : List LaneMark)
      → flat_map (λ (m : LaneMark). mark_spans n leading m.multi_label)
      (map (refilled_lane_mark φ) ms)
      ≡ flat_map (λ (m : LaneMark). mark_spans n leading m.multi_label) ms
  mark-spans n leading [] = refl
  mark-spans n leading (m ∷ ms) =
      ap₂ (λ a b. a ++ b) (one m.multi_label) (mark-spans n leading ms)
    where
      one : (k : MultiLabel)
          → mark_spans n leading (refilled_multi_label φ k) ≡ mark_spans n leading k
      one (Top start) = refl
      one Left = refl
      one (Bottom end message) = refl

  parts-refilled : (label_spans : ℕ → LabelModel → List (ℕ × ℕ))
      → ((n : ℕ) (x : LabelModel) → label_spans n (refilled φ x) ≡ label_spans n x)
      → (tab : ℕ) (line : Line)
      → parts_of label_spans tab (refilled_line φ line) ≡ parts_of label_spans tab line
  parts-refilled label_spans same tab line =
      ap (λ ss. parts_from (or_line_start ss) false [] 0 (units_of tab (chars line.text)))
      (ap₂ (λ a b. a ++ b)
      (label-spans (label_spans (length line.text)) (same (length line.text)) line.labels)
      (mark-spans (length line.text) (leading_whitespace line.text) line.lanes.lane_marks))

  shortened-refilled : (cells tab : ℕ) (line : Line)
      → shortened cells tab (refilled_line φ line) ≡ shortened cells tab line
  shortened-refilled cells tab line =
      ap₂ both (parts-refilled whole_span (λ n x. refl) tab line)
      (parts-refilled end_spans (λ n x. refl) tab line)
    where
      at : List Part → List Piece
      at parts = pieces_of (greatest (fits_at cells parts) cells) parts

      both : List Part → List Part → List Piece
      both whole ends = at (if fits_at cells whole 0 then whole else ends)

  -- ---- lines

  past_end-refilled : (line : Line) → past_end (refilled_line φ line) ≡ past_end line
  past_end-refilled line =
      ap (λ n. if nat_lt (length line.text) n then 1 else 0)
      (fold-map (λ m (x : LabelModel). max m x.end) (refilled φ) 0 line.labels)

  pieces-refilled : (width : Option ℕ) (context : RowContext) (line : Line)
      → fitted_pieces width context (refilled_line φ line) ≡ fitted_pieces width context line
  pieces-refilled None context line = refl
  pieces-refilled (Some width) context line =
      let tab = context.tab_width in
      let left = room width context.padding line.lanes in
      ap
      (λ e. if nat_le (width_of (char_metrics tab line.text) + e) left then []
      else shortened (left - e) tab (refilled_line φ line))
      (past_end-refilled line)
      ∙ ap
      (λ ps. if nat_le (line_cells tab line) left then [] else ps)
      (shortened-refilled (left - past_end line) tab line)

  labels-refilled : (ps : List Piece) (xs : List LabelModel)
      → map (moved_label ps) (map (refilled φ) xs) ≡ map (refilled φ) (map (moved_label ps) xs)
  labels-refilled ps [] = refl
  labels-refilled ps (x ∷ xs) =
      ap (λ ys. refilled φ (moved_label ps x) ∷ ys) (labels-refilled ps xs)

  mark-refilled : (ps : List Piece) (m : LaneMark)
      → moved_mark ps (refilled_lane_mark φ m) ≡ refilled_lane_mark φ (moved_mark ps m)
  mark-refilled ps m = ap (λ k. record m { multi_label = k }) (one m.multi_label)
    where
      one : (k : MultiLabel)
          → moved_multi_label ps (refilled_multi_label φ k)
          ≡ refilled_multi_label φ (moved_multi_label ps k)
      one (Top start) = refl
      one Left = refl
      one (Bottom end message) = refl

  marks-refilled : (ps : List Piece) (ms : List LaneMark)
      → map (moved_mark ps) (map (refilled_lane_mark φ) ms)
      ≡ map (refilled_lane_mark φ) (map (moved_mark ps) ms)
  marks-refilled ps [] = refl
  marks-refilled ps (m ∷ ms) =
      ap₂ (λ k ks. k ∷ ks) (mark-refilled ps m) (marks-refilled ps ms)

  shown-refilled : (ps : List Piece) (line : Line)
      → shown_line ps (refilled_line φ line) ≡ refilled_line φ (shown_line ps line)
  shown-refilled ps line =
      ap₂ {C = Line}
      (λ xs ms. record line {
        text = shown_text ps line.text;
        labels = xs;
        lanes = record line.lanes { lane_marks = ms };
      })
      (labels-refilled ps line.labels) (marks-refilled ps line.lanes.lane_marks)

  fitted-refilled : (width : Option ℕ) (context : RowContext) (line : Line)
      → fitted width context (refilled_line φ line) ≡ refilled_line φ (fitted width context line)
  fitted-refilled width context line =
      ap (λ ps. shown_line ps (refilled_line φ line)) (pieces-refilled width context line)
      ∙ shown-refilled (fitted_pieces width context line) line

  -- a row that fits has the messages of the row
  row-refilled : (width : Option ℕ) (context : RowContext) (row : Row)
      → fitted_row width context (refilled_row φ row)
      ≡ refilled_row φ (fitted_row width context row)
  row-refilled width context (HeaderRow locus header_text) = refl
  row-refilled width context (SnippetStartRow locus) = refl
  row-refilled width context (EmptyRow lanes) = refl
  row-refilled width context (BreakRow lanes) = refl
  row-refilled width context (SourceRow line) =
      ap SourceRow (fitted-refilled width context line)
  row-refilled width context (CaretRow line) = ap CaretRow (fitted-refilled width context line)
  row-refilled width context (PointerRow line) = ap PointerRow (fitted-refilled width context line)
  row-refilled width context (HangingRow line x) =
      ap₂ HangingRow (fitted-refilled width context line)
      (ap (λ ps. moved_label ps (refilled φ x)) (pieces-refilled width context line))
  row-refilled width context (UnderlineRow line m) =
      ap₂ UnderlineRow (fitted-refilled width context line)
      (ap (λ ps. moved_mark ps (refilled_lane_mark φ m)) (pieces-refilled width context line)
      ∙ mark-refilled (fitted_pieces width context line) m)
  row-refilled width context (FirstNoteRow note_line) = refl
  row-refilled width context (LaterNoteRow note_line) = refl
  row-refilled width context FinalRow = refl

  -- and so have all rows
  pub rows-refilled : (width : Option ℕ) (context : RowContext) (rows : List Row)
      → map (refilled_row φ) (map (fitted_row width context) rows)
      ≡ map (fitted_row width context) (map (refilled_row φ) rows)
  rows-refilled width context [] = refl
  rows-refilled width context (row ∷ rows) =
      ap₂ (λ r rs. r ∷ rs) (sym (row-refilled width context row))
      (rows-refilled width context rows)
