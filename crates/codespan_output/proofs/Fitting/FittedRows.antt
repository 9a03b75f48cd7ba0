-- For `FittedIsLine`: the rows of the line that fits a width are those of the line.
use Rattle.codespan_core.proofs.Std.{◌≡◌, ℕ, ◌≤◌, Bool, true, false, List, [], ◌∷◌, ◌++◌, map}
use Rattle.codespan_core.proofs.Std.{filter, reverse, Option, not, refl, sym, ap, ap₂, ◌∙◌}
use Rattle.codespan_core.proofs.Std.{AllByRecursion, map-append, if◌then◌else◌, chars, subst}
use Rattle.codespan_core.proofs.Std.{sum_by, len_utf8, nat_le}
use Rattle.std.specs.Prelude.{take_while}
use Rattle.std.specs.Char.{is_whitespace}
use Rattle.codespan_core.specs.Labels.{LabelModel, LaneMark, MultiLabel, Top, Left, Bottom}
use Rattle.codespan_output.specs.{begins_in_source_row, FittedIsLine, Line, RowContext, SourceRow}
use Rattle.codespan_output.specs.{PointerRow, HangingRow, UnderlineRow, hanging_labels}
use Rattle.codespan_output.specs.{has_underline, fitted, fitted_row, fitted_pieces}
use Rattle.codespan_output.specs.{leading_whitespace, Piece, shown_text, moved, moved_label}
use Rattle.codespan_output.specs.{moved_mark, moved_multi_label, IsFittable, FittedRowsAreRows}
use Rattle.codespan_output.specs.Private.{caret_rows, pointer_and_hanging_rows, underline_rows}
use Rattle.codespan_output.proofs.Fitting.FittedPieces.{fitted-keeps}
use Rattle.codespan_output.proofs.Fitting.HangingLabels.{hanging_labels-moved}
use Rattle.codespan_output.proofs.Fitting.KeptLabels.{KeepsLabels, MarkEndIsKept, ends-stay}
use Rattle.codespan_output.proofs.Fitting.LabelsStay.{labels-stay}
use Rattle.codespan_output.proofs.Fitting.Leading.{leading, leading-is, corner-same}
use Rattle.codespan_output.proofs.Fitting.ShownBytes.{bytes-moved}
use Rattle.codespan_output.proofs.Fitting.ShownChars.{chars-are-shown}
use Rattle.codespan_output.proofs.Fitting.Spelled.{shown_chars, chars-shown}
use Rattle.codespan_output.proofs.Slots.RefilledLine.{reverse-map}
use Rattle.codespan_output.proofs.Utf8.ListElements.{map-map}

-- ---- underlines

module _ (tab : ℕ) (ps : List Piece) (line : Line) (utf8 : IsFittable line)
    (keeps : KeepsLabels tab ps line) where
  shown_leading : leading_whitespace (shown_text ps line.text)
      ≡ leading (shown_chars tab ps (chars line.text) keeps.spell)
  shown_leading =
      ap (λ ds. sum_by len_utf8 (take_while is_whitespace ds))
      (chars-shown tab ps line.text utf8.is_utf8 keeps.spell)
      ∙ leading-is (shown_chars tab ps (chars line.text) keeps.spell)

  -- a corner stays in the source row, or out of it
  pub top-corner : (start : ℕ) → MarkEndIsKept ps (leading_whitespace line.text) (Top start)
      → begins_in_source_row (leading_whitespace (shown_text ps line.text)) (moved ps start)
      ≡ begins_in_source_row (leading_whitespace line.text) start
  top-corner start h =
      let same : leading_whitespace line.text ≡ leading (chars line.text) =
      leading-is (chars line.text) in
      ap (nat_le (moved ps start)) shown_leading
      ∙ corner-same tab ps keeps.short (chars line.text) keeps.spell start h.0
      (λ le. h.1 (subst (λ n. start ≤ n) (sym same) le))
      ∙ ap (nat_le start) (sym same)

  underline-same : (m : MultiLabel) → MarkEndIsKept ps (leading_whitespace line.text) m
      → has_underline (leading_whitespace (shown_text ps line.text)) (moved_multi_label ps m)
      ≡ has_underline (leading_whitespace line.text) m
  underline-same Left h = refl
  underline-same (Bottom end message) h = refl
  underline-same (Top start) h = ap not (top-corner start h)

  underlined : (ms : List LaneMark)
      → AllByRecursion
      (λ (m : LaneMark). MarkEndIsKept ps (leading_whitespace line.text) m.multi_label) ms
      → filter
      (λ (m : LaneMark). has_underline (leading_whitespace (shown_text ps line.text))
      m.multi_label) (map (moved_mark ps) ms)
      ≡ map (moved_mark ps)
      (filter
      (λ (m : LaneMark). has_underline (leading_whitespace line.text) m.multi_label) ms)
  underlined [] h = refl
  underlined (m ∷ ms) h =
      ap
      (λ b. if b then moved_mark ps m ∷ filter has_moved (map (moved_mark ps) ms)
      else filter has_moved (map (moved_mark ps) ms))
      (underline-same m.multi_label h.0)
      ∙ by_test (has m) (underlined ms h.1)
    where
      has : LaneMark → Bool
      has n = has_underline (leading_whitespace line.text) n.multi_label

      has_moved : LaneMark → Bool
      has_moved n = has_underline (leading_whitespace (shown_text ps line.text)) n.multi_label

      by_test : (b : Bool)
          → filter has_moved (map (moved_mark ps) ms) ≡ map (moved_mark ps) (filter has ms)
          → (if b then moved_mark ps m ∷ filter has_moved (map (moved_mark ps) ms)
          else filter has_moved (map (moved_mark ps) ms))
          ≡ map (moved_mark ps) (if b then m ∷ filter has ms else filter has ms)
      by_test true rest = ap (λ ns. moved_mark ps m ∷ ns) rest
      by_test false rest = rest

-- ---- the rows of a line

module _ (width : Option ℕ) (context : RowContext) (line : Line) where
  caret-rows : (labels : List LabelModel)
      → map (fitted_row width context) (caret_rows line labels)
      ≡ caret_rows (fitted width context line)
      (map (moved_label (fitted_pieces width context line)) labels)
  caret-rows [] = refl
  caret-rows (x ∷ xs) = refl

  hanging-rows : (labels : List LabelModel)
      → map (fitted_row width context) (pointer_and_hanging_rows line labels)
      ≡ pointer_and_hanging_rows (fitted width context line)
      (map (moved_label (fitted_pieces width context line)) labels)
  hanging-rows [] = refl
  hanging-rows (x ∷ xs) =
      let ps = fitted_pieces width context line in
      let line2 = fitted width context line in
      ap (λ rows. PointerRow line2 ∷ rows)
      (map-map (fitted_row width context) (HangingRow line) (reverse (x ∷ xs))
      ∙ sym (map-map (HangingRow line2) (moved_label ps) (reverse (x ∷ xs)))
      ∙ ap (map (HangingRow line2)) (sym (reverse-map (moved_label ps) (x ∷ xs))))

  underline-rows : IsFittable line
      → map (fitted_row width context) (underline_rows line)
      ≡ underline_rows (fitted width context line)
  underline-rows h =
      let ps = fitted_pieces width context line in
      let line2 = fitted width context line in
      let keeps = fitted-keeps width context line h in
      let p = λ (m : LaneMark). has_underline (leading_whitespace line.text) m.multi_label in
      map-map (fitted_row width context) (UnderlineRow line) (filter p line.lanes.lane_marks)
      ∙ sym (map-map (UnderlineRow line2) (moved_mark ps) (filter p line.lanes.lane_marks))
      ∙ ap (map (UnderlineRow line2))
      (sym (underlined context.tab_width ps line h keeps line.lanes.lane_marks keeps.marks))

  -- the rows of the line that fits
  fitted-rows : IsFittable line → FittedRowsAreRows width context line
  fitted-rows h =
      let ps = fitted_pieces width context line in
      let line2 = fitted width context line in
      let keeps = fitted-keeps width context line h in
      sym
      (map-append (fitted_row width context)
      ((SourceRow line ∷ caret_rows line line.labels)
      ++ pointer_and_hanging_rows line (hanging_labels line.labels)) (underline_rows line)
      ∙ ap₂ (λ a b. a ++ b)
      (map-append (fitted_row width context) (SourceRow line ∷ caret_rows line line.labels)
      (pointer_and_hanging_rows line (hanging_labels line.labels))
      ∙ ap₂ (λ a b. (SourceRow line2 ∷ a) ++ b)
      (caret-rows line.labels)
      (hanging-rows (hanging_labels line.labels)
      ∙ ap (pointer_and_hanging_rows line2)
      (sym (hanging_labels-moved ps keeps.short line.labels
      (ends-stay ps keeps.short line.labels keeps.labels)))))
      (underline-rows h))

  -- the line that fits is the line
  pub fitted-is-line : IsFittable line → FittedIsLine width context line
  fitted-is-line h =
      let ps = fitted_pieces width context line in
      let keeps = fitted-keeps width context line h in
      record {
        bytes = bytes-moved context.tab_width ps line h keeps;
        chars = chars-are-shown context.tab_width ps line h keeps;
        labels = labels-stay context.tab_width ps line keeps;
        rows = fitted-rows h;
      }
