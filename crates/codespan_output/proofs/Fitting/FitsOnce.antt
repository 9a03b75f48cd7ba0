-- For `FitsOnce`: of a line that is shortened no more is left out.
use Rattle.codespan_core.proofs.Std.{◌≡◌, ℕ, ◌+◌, ◌-◌, ◌<◌, ◌≤◌, Bool, true, false, nat_le, List}
use Rattle.codespan_core.proofs.Std.{[], ◌∷◌, ◌++◌, length, flat_map, Option, Some, None, sym, ap}
use Rattle.codespan_core.proofs.Std.{subst, ◌∙◌, arith, ⊎_elim, cases_Bool, cond_both}
use Rattle.codespan_core.proofs.Std.{AllByRecursion, if◌then◌else◌, chars, false≢true, drop}
use Rattle.std.proofs.lemmas.Bool.{leb-true, leb-false}
use Rattle.codespan_core.specs.Labels.{LabelModel, LaneMark, MultiLabel, Top, Left, Bottom}
use Rattle.codespan_output.specs.{Line, RowContext, Piece, moved, moved_label, is_needed}
use Rattle.codespan_output.specs.{first_byte, last_byte, whole_span, end_spans, mark_spans}
use Rattle.codespan_output.specs.{or_line_start, needed_spans, units_of, parts_of, parts_from}
use Rattle.codespan_output.specs.{pieces_of, piece_cells, fits_at, chosen_parts, greatest}
use Rattle.codespan_output.specs.{shortened, shown_text, shown_line, fitted_pieces, line_cells}
use Rattle.codespan_output.specs.{room, past_end, leading_whitespace, begins_in_source_row}
use Rattle.codespan_output.specs.{width_of, char_metrics, is_kept, IsFittable, LabelIsKept}
use Rattle.codespan_output.specs.{PiecesAreLine, FitsOnce, fitted, unit_bytes}
use Rattle.codespan_output.proofs.Fitting.FittedPieces.{ends-all, shortened-line}
use Rattle.codespan_output.proofs.Fitting.FittedRows.{top-corner}
use Rattle.codespan_output.proofs.Fitting.KeptLabels.{KeepsLabels, MarkEndIsKept, line-keeps}
use Rattle.codespan_output.proofs.Fitting.KeptLabels.{past-kept}
use Rattle.codespan_output.proofs.Fitting.Moved.{moved-rises}
use Rattle.codespan_output.proofs.Fitting.MovedSpans.{CornerStays, first-moved, last-moved}
use Rattle.codespan_output.proofs.Fitting.MovedSpans.{spans-moved}
use Rattle.codespan_output.proofs.Fitting.Pieces.{units-have_bytes}
use Rattle.codespan_output.proofs.Fitting.ShortGaps.{NoDots, line-same, no-cells}
use Rattle.codespan_output.proofs.Fitting.ShownGaps.{Ordered, gaps}
use Rattle.codespan_output.proofs.Fitting.ShownParts.{HasEnds, made-line, whole-ends, ends-ends}
use Rattle.codespan_output.proofs.Fitting.ShownUnits.{HaveCells, shown_units, shown-units}
use Rattle.codespan_output.proofs.Fitting.ShownUnits.{units-cells}
use Rattle.codespan_output.proofs.Fitting.Spelled.{chars-shown, units-all}
use Rattle.codespan_output.proofs.Fitting.Widths.{text-most, past-less, greatest-passes}
use Rattle.codespan_output.proofs.Fitting.Widths.{shown-length}

-- ---- spans

ordered-append : (ss ts : List (ℕ × ℕ)) → Ordered ss → Ordered ts → Ordered (ss ++ ts)
ordered-append [] ts h k = k
ordered-append (s ∷ ss) ts h k = (h.0, ordered-append ss ts h.1 k)

ordered-or_start : (ss : List (ℕ × ℕ)) → Ordered ss → Ordered (or_line_start ss)
ordered-or_start [] h = (omega arith, tt)
ordered-or_start (s ∷ ss) h = h

ordered-labels : (n : ℕ) (xs : List LabelModel) → Ordered (flat_map (end_spans n) xs)
ordered-labels n [] = tt
ordered-labels n (x ∷ xs) = (omega arith, (omega arith, ordered-labels n xs))

ordered-marks : (n leading : ℕ) (ms : List LaneMark)
    → Ordered (flat_map (λ (m : LaneMark). mark_spans n leading m.multi_label) ms)
ordered-marks n leading [] = tt
ordered-marks n leading (m ∷ ms) =
    ordered-append (mark_spans n leading m.multi_label)
    (flat_map (λ (k : LaneMark). mark_spans n leading k.multi_label) ms) (one m.multi_label)
    (ordered-marks n leading ms)
  where
    one : (k : MultiLabel) → Ordered (mark_spans n leading k)
    one (Top start) = (
      cond_both (begins_in_source_row leading start) 0 (first_byte n start)
          (λ low. low ≤ first_byte n start) (λ _. omega arith) (λ _. omega arith),
      tt,
    )
    one Left = tt
    one (Bottom end message) = (omega arith, tt)

-- ---- a line of which the ends of labels alone are shown

module _ (tab : ℕ) (line : Line) (h : IsFittable line) where
  abbrev ps : List Piece
  ps = pieces_of 0 (parts_of end_spans tab line)

  abbrev n : ℕ
  n = length line.text

  abbrev shown : ℕ
  shown = length (shown_text ps line.text)

  is_line : PiecesAreLine tab line ps
  is_line = made-line end_spans 0 tab line h (ends-all n line.labels)

  keeps : KeepsLabels tab ps line
  keeps = line-keeps tab line ps is_line

  size : shown ≡ moved ps n
  size = shown-length ps line.text (omega (arith, is_line.bytes))

  past : is_kept ps n ≡ true
  past = past-kept tab line ps is_line n (omega arith)

  units-same : units_of tab (chars (shown_text ps line.text)) ≡ shown_units ps
  units-same =
      ap (units_of tab) (chars-shown tab ps line.text h.is_utf8 keeps.spell)
      ∙ shown-units tab ps (chars line.text) keeps.spell
      (ap unit_bytes is_line.units ∙ units-all tab (chars line.text)) is_line.dots_are_many
      (subst (λ us. HaveCells (drop 1 us)) (sym is_line.units)
      (units-cells tab (chars line.text)))

  -- a label where it is moved to does not end before it starts
  forward : (xs : List LabelModel) → AllByRecursion (LabelIsKept ps n) xs
      → AllByRecursion (λ (x : LabelModel). first_byte n x.start ≤ last_byte n x.end) xs
      → AllByRecursion (λ (x : LabelModel). first_byte shown (moved ps x.start)
      ≤ last_byte shown (moved ps x.end)) xs
  forward [] k f = tt
  forward (x ∷ xs) k f = (
    omega (
      arith,
      first-moved ps keeps.short n shown size past x.start k.0.first,
      last-moved ps keeps.short n shown size past x.end k.0.last,
      moved-rises ps (first_byte n x.start) (last_byte n x.end) f.0,
    ),
    forward xs k.1 f.1,
  )

  whole-shown : (xs : List LabelModel)
      → AllByRecursion (λ (x : LabelModel). first_byte shown (moved ps x.start)
      ≤ last_byte shown (moved ps x.end)) xs
      → AllByRecursion (λ (x : LabelModel). HasEnds whole_span shown (moved_label ps x)) xs
  whole-shown [] f = tt
  whole-shown (x ∷ xs) f = (whole-ends shown (moved_label ps x) f.0, whole-shown xs f.1)

  ends-shown : (xs : List LabelModel)
      → AllByRecursion (λ (x : LabelModel). HasEnds end_spans shown (moved_label ps x)) xs
  ends-shown [] = tt
  ends-shown (x ∷ xs) = (ends-ends shown (moved_label ps x), ends-shown xs)

  corners : (ms : List LaneMark)
      → AllByRecursion
      (λ (m : LaneMark). MarkEndIsKept ps (leading_whitespace line.text) m.multi_label) ms
      → AllByRecursion
      (λ (m : LaneMark). CornerStays ps keeps.short n shown size past
      (leading_whitespace line.text) (leading_whitespace (shown_text ps line.text))
      m.multi_label) ms
  corners [] k = tt
  corners (m ∷ ms) k = (corner m.multi_label k.0, corners ms k.1)
    where
      corner : (m : MultiLabel) → MarkEndIsKept ps (leading_whitespace line.text) m
          → CornerStays ps keeps.short n shown size past (leading_whitespace line.text)
          (leading_whitespace (shown_text ps line.text)) m
      corner (Top start) a = top-corner tab ps line h keeps start a
      corner Left a = tt
      corner (Bottom end message) a = tt

  -- of what is shown nothing is left out
  no-more : (label_spans : ℕ → LabelModel → List (ℕ × ℕ))
      → AllByRecursion (λ (x : LabelModel). HasEnds label_spans shown (moved_label ps x))
      line.labels
      → (radius : ℕ) → NoDots (pieces_of radius (parts_of label_spans tab (shown_line ps line)))
  no-more label_spans has radius =
      subst
      (λ us. NoDots (pieces_of radius
      (parts_from (needed_spans label_spans (shown_line ps line)) false [] 0 us)))
      (sym units-same)
      (gaps radius (needed_spans end_spans line) (needed_spans label_spans (shown_line ps line))
      ordered false [] 0 (units_of tab (chars line.text)) 0 false
      (units-have_bytes tab (chars line.text)) (units-cells tab (chars line.text))
      (λ e. absurd (false≢true e)) needs)
    where
      ordered : Ordered (needed_spans end_spans line)
      ordered =
          ordered-or_start _ (ordered-append (flat_map (end_spans n) line.labels)
          (flat_map
          (λ (m : LaneMark). mark_spans n (leading_whitespace line.text) m.multi_label)
          line.lanes.lane_marks) (ordered-labels n line.labels)
          (ordered-marks n (leading_whitespace line.text) line.lanes.lane_marks))

      needs : (y : ℕ) → 0 ≤ y → is_needed (needed_spans end_spans line) y (y + 1) ≡ true
          → is_needed (needed_spans label_spans (shown_line ps line))
          (0 + moved ps (0 + (y - 0))) (0 + moved ps (0 + (y - 0)) + 1) ≡ true
      needs y least k =
          let same : y ≡ 0 + (y - 0) = omega arith in
          let there : moved ps y ≡ 0 + moved ps (0 + (y - 0)) =
          omega (arith, ap (moved ps) same) in
          subst
          (λ z. is_needed (needed_spans label_spans (shown_line ps line)) z (z + 1) ≡ true) there
          (spans-moved ps keeps.short n shown size past (leading_whitespace line.text)
          (leading_whitespace (shown_text ps line.text)) label_spans line.labels
          line.lanes.lane_marks is_line.labels has is_line.marks
          (corners line.lanes.lane_marks keeps.marks) y k)

  -- whatever the width
  ends-once : (cells : ℕ) → NoDots (shortened cells tab (shown_line ps line))
  ends-once cells =
      let line2 = shown_line ps line in
      let radius = greatest (fits_at cells (chosen_parts cells tab line2)) cells in
      cond_both (fits_at cells (parts_of whole_span tab line2) 0)
      (parts_of whole_span tab line2) (parts_of end_spans tab line2)
      (λ parts. NoDots (pieces_of radius parts))
      (λ _. no-more whole_span
      (whole-shown line.labels (forward line.labels is_line.labels h.forward)) radius)
      (λ _. no-more end_spans (ends-shown line.labels) radius)

-- ---- lines that fit

module _ (width : ℕ) (context : RowContext) (line : Line) (h : IsFittable line) where
  abbrev tab : ℕ
  tab = context.tab_width

  abbrev left : ℕ
  left = room width context.padding line.lanes

  abbrev cells : ℕ
  cells = left - past_end line

  -- where the line has the cells that are left it is shown whole, and so it is again
  tiny : piece_cells (shortened cells tab line) ≤ cells
      → left < line_cells tab (shown_line (shortened cells tab line) line)
      → NoDots (shortened (left - past_end (shown_line (shortened cells tab line) line)) tab
      (shown_line (shortened cells tab line) line))
  tiny few over =
      let qs = shortened cells tab line in
      let made = shortened-line cells tab line h in
      let kept = line-keeps tab line qs made in
      let most : width_of (char_metrics tab (shown_text qs line.text)) ≤ piece_cells qs =
      text-most tab qs line h kept.spell made.bytes in
      let end : past_end (shown_line qs line) ≤ past_end line =
      past-less qs line kept.short (omega (arith, made.bytes)) in
      let none : NoDots qs = no-cells qs (omega (arith, most, end)) in
      subst (λ (l : Line). NoDots (shortened (left - past_end l) tab l))
      (sym (line-same qs none line)) none

  -- else the ends of labels alone are shown
  short : left < line_cells tab (shown_line (shortened cells tab line) line)
      → NoDots (shortened (left - past_end (shown_line (shortened cells tab line) line)) tab
      (shown_line (shortened cells tab line) line))
  short over =
      ⊎_elim
      (λ (a : fits_at cells (chosen_parts cells tab line) radius ≡ true).
      tiny (leb-true (piece_cells (shortened cells tab line)) cells a) over)
      (λ (a : radius ≡ 0). ⊎_elim
      (λ (b : fits_at cells (parts_of whole_span tab line) 0 ≡ true).
      tiny (leb-true (piece_cells (shortened cells tab line)) cells
      (ap (λ parts. fits_at cells parts radius) (choice true b)
      ∙ ap (fits_at cells (parts_of whole_span tab line)) a ∙ b)) over)
      (λ (b : fits_at cells (parts_of whole_span tab line) 0 ≡ false).
      subst
      (λ qs. NoDots (shortened (left - past_end (shown_line qs line)) tab (shown_line qs line)))
      (sym (ap (λ r. pieces_of r (chosen_parts cells tab line)) a
      ∙ ap (pieces_of 0) (choice false b)))
      (ends-once tab line h
      (left - past_end (shown_line (pieces_of 0 (parts_of end_spans tab line)) line))))
      (cases_Bool (fits_at cells (parts_of whole_span tab line) 0)))
      (greatest-passes (fits_at cells (chosen_parts cells tab line)) cells)
    where
      radius : ℕ
      radius = greatest (fits_at cells (chosen_parts cells tab line)) cells

      choice : (b : Bool) → fits_at cells (parts_of whole_span tab line) 0 ≡ b
          → chosen_parts cells tab line
          ≡ (if b then parts_of whole_span tab line else parts_of end_spans tab line)
      choice b e =
          ap (λ c. if c then parts_of whole_span tab line else parts_of end_spans tab line) e

  none-left : NoDots (fitted_pieces (Some width) context (fitted (Some width) context line))
  none-left =
      cond_both (nat_le (line_cells tab line) left) [] (shortened cells tab line)
      (λ qs. NoDots (fitted_pieces (Some width) context (shown_line qs line)))
      (λ fits. subst (λ (l : Line). NoDots (fitted_pieces (Some width) context l))
      (sym (line-same [] tt line))
      (subst (λ b. NoDots (if b then [] else shortened cells tab line)) (sym fits) tt))
      (λ _. let line2 = shown_line (shortened cells tab line) line in
      cond_both (nat_le (line_cells tab line2) left) []
      (shortened (left - past_end line2) tab line2) NoDots (λ _. tt)
      (λ over. short (leb-false (line_cells tab line2) left over)))

-- fitting again changes nothing
pub fits-once : (width : Option ℕ) (context : RowContext) (line : Line) → IsFittable line
    → FitsOnce width context line
fits-once None context line h = line-same [] tt (shown_line [] line)
fits-once (Some width) context line h =
    line-same (fitted_pieces (Some width) context (fitted (Some width) context line))
    (none-left width context line h) (fitted (Some width) context line)
