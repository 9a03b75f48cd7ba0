-- For `lanes_join_corners`: each lane is one line in the rows of the drawn lines.
use Rattle.codespan_core.proofs.Std.{◌≡◌, ℕ, zero, suc, ◌+◌, ◌-◌, ◌<◌}
use Rattle.codespan_core.proofs.Std.{◌≤◌, Bool, true, false, cond, ⊎_elim, List, []}
use Rattle.codespan_core.proofs.Std.{◌∷◌, ◌++◌, filter, Option, Some, None, refl, sym, ap}
use Rattle.codespan_core.proofs.Std.{◌∙◌, zero-add, append_assoc, arith, range_with_len}
use Rattle.codespan_core.proofs.Std.{AllByRecursion, cases_lt}
use Rattle.codespan_core.specs.FileModel.{line_start}
use Rattle.codespan_core.specs.Labels.{LabelModel, first_line, last_line, multi_label_on}
use Rattle.codespan_core.specs.Labels.{lane_mark_of, lane_marks_on, multi_line_labels, MultiLabel}
use Rattle.codespan_core.specs.Labels.{Top, Left, Bottom}
use Rattle.codespan_output.specs.Types.{Layout}
use Rattle.codespan_output.specs.declared.lane_shapes.Shape.TheVariants.{Space, Bar}
use Rattle.codespan_output.specs.{lane_mark_in, shape_of, Row, BreakRow, rows_of, LabeledFileModel}
use Rattle.codespan_output.specs.{line_at, rows_of_drawn, HasLane, EmptyOrBreak, row_shape}
use Rattle.codespan_output.proofs.DrawnLines.Filled.{breaks_before}
use Rattle.codespan_output.proofs.Lanes.Bars.{lane_mark_in-from}
use Rattle.codespan_output.proofs.Lanes.LineLemmas.{Shows, Begins, Finishes, Whole, finishes_later}
use Rattle.codespan_output.proofs.Lanes.LineLemmas.{finishes_before, whole_later, whole_joined}
use Rattle.codespan_output.proofs.Lanes.LineRows.{lane_mark_with, no_lane_mark, left_lane_mark}
use Rattle.codespan_output.proofs.Lanes.LineEnds.{top_lane_mark}
use Rattle.codespan_output.proofs.Lanes.LineBottoms.{Split, bottom_lane_mark}
use Rattle.codespan_output.proofs.Utf8.ListElements.{all-append}
use Rattle.codespan_output.proofs.Lanes.MarkSearch.{split_from, multi_label_before, multi_label_top}
use Rattle.codespan_output.proofs.Lanes.MarkSearch.{multi_label_left, multi_label_bottom}
use Rattle.codespan_output.proofs.Lanes.MarkSearch.{multi_label_after}
use Rattle.codespan_output.specs.Private.{has_break_between}

-- ---- the rows of the drawn lines

each_break : (P : Row → Type 0) (s : LabeledFileModel) (previous : Option ℕ) (l : ℕ)
    → P (BreakRow (line_at s l).lanes) → AllByRecursion P (breaks_before s previous l)
each_break P s None l h = tt
each_break P s (Some c) l h = by_test (has_break_between c l)
  where
    by_test : (b : Bool) → AllByRecursion P (cond b (BreakRow (line_at s l).lanes ∷ []) [])
    by_test true = (h, tt)
    by_test false = tt

module _ (layout : Layout) (s : LabeledFileModel) (lane : ℕ) (x : LabelModel)
    (has : HasLane s lane x)
    (several : first_line s.file x < last_line s.file x) (drawn : ℕ → Bool) where
  abbrev top_of : ℕ → MultiLabel
  top_of l = Top (x.start - line_start s.file l)

  abbrev bottom_of : ℕ → MultiLabel
  bottom_of l = Bottom (x.end - line_start s.file l) x.message

  lane_mark_at : (l : ℕ) (multi_label : Option MultiLabel)
      → multi_label_on s.file l x ≡ multi_label
      → lane_mark_in (lane_marks_on s.file s.labels l) lane ≡ lane_mark_of lane x multi_label
  lane_mark_at l multi_label is =
      ap (lane_mark_in (lane_marks_on s.file s.labels l)) (sym (zero-add lane))
      ∙ lane_mark_in-from s.file l 0 lane (multi_line_labels s.file s.labels)
      ∙ rw (zero-add, has) (ap (lane_mark_of lane x) is)

  split_on : (l : ℕ) (multi_label : MultiLabel) → multi_label_on s.file l x ≡ Some multi_label
      → Split lane (lane_mark_with lane x.style multi_label) (lane_marks_on s.file s.labels l)
  split_on l multi_label is =
      split_from s.file l lane 0 lane (multi_line_labels s.file s.labels) x multi_label
      (zero-add lane) has is

  -- the label has no multi-line label mark on the line
  abbrev NoLaneMark : ℕ → Type 0
  NoLaneMark l = lane_mark_in (lane_marks_on s.file s.labels l) lane ≡ None

  no_lane_mark_before : (l : ℕ) → l < first_line s.file x → NoLaneMark l
  no_lane_mark_before l h =
      lane_mark_at l None
      (multi_label_before (first_line s.file x) (last_line s.file x) l (top_of l) (bottom_of l)
      several h)

  no_lane_mark_after : (l : ℕ) → last_line s.file x < l → NoLaneMark l
  no_lane_mark_after l h =
      lane_mark_at l None
      (multi_label_after (first_line s.file x) (last_line s.file x) l (top_of l) (bottom_of l)
      several h)

  top_at : (l : ℕ) → first_line s.file x ≡ l → multi_label_on s.file l x ≡ Some (top_of l)
  top_at l h = multi_label_top (first_line s.file x) (last_line s.file x) l (top_of l) (bottom_of l)
      h

  left_at : (l : ℕ) → first_line s.file x < l → l < last_line s.file x
      → multi_label_on s.file l x ≡ Some Left
  left_at l low high = multi_label_left (first_line s.file x) (last_line s.file x) l (top_of l)
      (bottom_of l) low high

  bottom_at : (l : ℕ) → last_line s.file x ≡ l
      → multi_label_on s.file l x ≡ Some (bottom_of l)
  bottom_at l h = multi_label_bottom (first_line s.file x) (last_line s.file x) l (top_of l)
      (bottom_of l) several h

  begins_line : (l : ℕ) → first_line s.file x ≡ l
      → Begins layout lane (line_at s l) (rows_of (line_at s l))
  begins_line l h =
      top_lane_mark layout lane (line_at s l) x.style (x.start - line_start s.file l)
      (lane_mark_at l (Some (top_of l)) (top_at l h)) (split_on l (top_of l) (top_at l h))

  finishes_line : (l : ℕ) → last_line s.file x ≡ l
      → Finishes layout lane (rows_of (line_at s l))
  finishes_line l h =
      bottom_lane_mark layout lane (line_at s l) x.style (x.end - line_start s.file l) x.message
      (lane_mark_at l (Some (bottom_of l)) (bottom_at l h))
      (split_on l (bottom_of l) (bottom_at l h))

  gaps_with : (previous : Option ℕ) (l : ℕ) → NoLaneMark l
      → AllByRecursion (Shows layout lane Space)
      (breaks_before s previous l ++ rows_of (line_at s l))
  gaps_with previous l none =
      all-append (Shows layout lane Space) (breaks_before s previous l) (rows_of (line_at s l))
      (each_break (Shows layout lane Space) s previous l
      (ap (shape_of (row_shape layout 0 EmptyOrBreak lane)) none))
      (no_lane_mark layout lane (line_at s l) none)

  gap_break : (previous : Option ℕ) (l : ℕ) → first_line s.file x ≡ l
      → AllByRecursion (Shows layout lane Space) (breaks_before s previous l)
  gap_break previous l h =
      each_break (Shows layout lane Space) s previous l
      (ap (shape_of (row_shape layout 0 EmptyOrBreak lane))
      (lane_mark_at l (Some (top_of l)) (top_at l h)))

  bar_break : (previous : Option ℕ) (l : ℕ) (multi_label : MultiLabel)
      → row_shape layout 0 EmptyOrBreak lane multi_label ≡ Bar
      → multi_label_on s.file l x ≡ Some multi_label
      → AllByRecursion (Shows layout lane Bar) (breaks_before s previous l)
  bar_break previous l multi_label bar is =
      each_break (Shows layout lane Bar) s previous l
      (ap (shape_of (row_shape layout 0 EmptyOrBreak lane)) (lane_mark_at l (Some multi_label) is)
      ∙ bar)

  abbrev lines_from : ℕ → ℕ → List ℕ
  lines_from a n = filter drawn (range_with_len a n)

  abbrev rows_from : Option ℕ → ℕ → ℕ → List Row
  rows_from previous a n = rows_of_drawn s previous (lines_from a n)

  skip : (previous : Option ℕ) (a n : ℕ) → drawn a ≡ false
      → rows_from previous a (suc n) ≡ rows_from previous (a + 1) n
  skip previous a n h = ap
      (λ b. rows_of_drawn s previous (cond b (a ∷ lines_from (a + 1) n) (lines_from (a + 1) n)))
      h

  keep : (previous : Option ℕ) (a n : ℕ) → drawn a ≡ true
      → rows_from previous a (suc n) ≡ breaks_before s previous a ++ rows_of
      (line_at s a) ++ rows_from (Some a) (a + 1) n
  keep previous a n h = ap
      (λ b. rows_of_drawn s previous (cond b (a ∷ lines_from (a + 1) n) (lines_from (a + 1) n)))
      h

  -- the rows of the lines after the label
  gaps_after : (previous : Option ℕ) (a n : ℕ) → last_line s.file x < a
      → AllByRecursion (Shows layout lane Space) (rows_from previous a n)
  gaps_after previous a zero past = tt
  gaps_after previous a (suc n) past = by_test (λ w. gaps_after w (a + 1) n (omega arith))
      (drawn a)
    where
      by_test : ((w : Option ℕ)
          → AllByRecursion (Shows layout lane Space) (rows_from w (a + 1) n))
          → (b : Bool)
          → AllByRecursion (Shows layout lane Space)
          (rows_of_drawn s previous (cond b (a ∷ lines_from (a + 1) n) (lines_from (a + 1) n)))
      by_test rest true =
          all-append (Shows layout lane Space) (breaks_before s previous a ++ rows_of (line_at s a))
          (rows_from (Some a) (a + 1) n)
          (gaps_with previous a (no_lane_mark_after a past)) (rest (Some a))
      by_test rest false = rest previous

  -- the rows of the lines from one after the label's first on
  finishes_from : (previous : Option ℕ) (a n : ℕ) → first_line s.file x < a
      → a ≤ last_line s.file x
      → last_line s.file x < a + n → drawn (last_line s.file x) ≡ true
      → Finishes layout lane (rows_from previous a n)
  finishes_from previous a zero low high inside end = absurd (omega arith)
  finishes_from previous a (suc n) low high inside end =
      by_test
      (λ w further. finishes_from w (a + 1) n (omega arith) (omega arith) (omega arith) end)
      (drawn a) refl
    where
      by_test : ((w : Option ℕ) → a < last_line s.file x
          → Finishes layout lane (rows_from w (a + 1) n))
          → (b : Bool) → drawn a ≡ b
          → Finishes layout lane (rows_from previous a (suc n))
      by_test rest true is = ⊎_elim further ended (cases_lt a (last_line s.file x))
        where
          further : a < last_line s.file x → Finishes layout lane (rows_from previous a (suc n))
          further h =
              rw (keep previous a n is)
              (finishes_later layout lane (breaks_before s previous a ++ rows_of (line_at s a))
              (rows_from (Some a) (a + 1) n)
              (all-append (Shows layout lane Bar) (breaks_before s previous a)
              (rows_of (line_at s a)) (bar_break previous a Left refl (left_at a low h))
              (left_lane_mark layout lane (line_at s a) x.style
              (lane_mark_at a (Some Left) (left_at a low h))))
              (rest (Some a) h))

          ended : last_line s.file x ≤ a → Finishes layout lane (rows_from previous a (suc n))
          ended h =
              let here : last_line s.file x ≡ a = omega arith in
              rw (keep previous a n is)
              (finishes_before layout lane (breaks_before s previous a ++ rows_of (line_at s a))
              (rows_from (Some a) (a + 1) n)
              (finishes_later layout lane (breaks_before s previous a) (rows_of (line_at s a))
              (bar_break previous a (bottom_of a) refl (bottom_at a here))
              (finishes_line a here))
              (gaps_after (Some a) (a + 1) n (omega arith)))
      by_test rest false is =
          rw (skip previous a n is) (rest previous (⊎_elim (λ h. h)
          (λ h. let here : last_line s.file x ≡ a = omega arith in
          let off : drawn (last_line s.file x) ≡ false = ap drawn here ∙ is in absurd cc)
          (cases_lt a (last_line s.file x))))

  -- the rows of the lines from the label's first or an earlier one on
  pub whole_from : (previous : Option ℕ) (a n : ℕ) → a ≤ first_line s.file x
      → last_line s.file x < a + n
      → drawn (first_line s.file x) ≡ true → drawn (last_line s.file x) ≡ true
      → Whole layout lane (line_at s (first_line s.file x)) (rows_from previous a n)
  whole_from previous a zero high inside start end = absurd (omega arith)
  whole_from previous a (suc n) high inside start end =
      by_test (λ w further. whole_from w (a + 1) n (omega arith) (omega arith) start end) (drawn a)
      refl
    where
      by_test : ((w : Option ℕ) → a < first_line s.file x
          → Whole layout lane (line_at s (first_line s.file x)) (rows_from w (a + 1) n))
          → (b : Bool) → drawn a ≡ b
          → Whole layout lane (line_at s (first_line s.file x)) (rows_from previous a (suc n))
      by_test rest true is = ⊎_elim further prefix (cases_lt a (first_line s.file x))
        where
          further : a < first_line s.file x
              → Whole layout lane (line_at s (first_line s.file x)) (rows_from previous a (suc n))
          further h =
              rw (keep previous a n is)
              (whole_later layout lane (line_at s (first_line s.file x))
              (breaks_before s previous a ++ rows_of (line_at s a))
              (rows_from (Some a) (a + 1) n)
              (gaps_with previous a (no_lane_mark_before a h)) (rest (Some a) h))

          joined : first_line s.file x ≡ a
              → Whole layout lane (line_at s a)
              (rows_of (line_at s a) ++ rows_from (Some a) (a + 1) n)
          joined here =
              whole_joined layout lane (line_at s a) (rows_of (line_at s a))
              (rows_from (Some a) (a + 1) n)
              (begins_line a here) (finishes_from (Some a) (a + 1) n (omega arith) (omega arith)
              (omega arith) end)

          prefix : first_line s.file x ≤ a
              → Whole layout lane (line_at s (first_line s.file x)) (rows_from previous a (suc n))
          prefix h =
              let here : first_line s.file x ≡ a = omega arith in
              let one : Whole layout lane (line_at s (first_line s.file x))
              (rows_of (line_at s a) ++ rows_from (Some a) (a + 1) n) =
              rw here (joined here) in
              rw (
                keep previous a n is,
                append_assoc (breaks_before s previous a)
                    (rows_of (line_at s a)) (rows_from (Some a) (a + 1) n),
              )
              (whole_later layout lane (line_at s (first_line s.file x))
              (breaks_before s previous a) (rows_of (line_at s a)
              ++ rows_from (Some a) (a + 1) n)
              (gap_break previous a here) one)
      by_test rest false is =
          rw (skip previous a n is) (rest previous (⊎_elim (λ h. h)
          (λ h. let here : first_line s.file x ≡ a = omega arith in
          let off : drawn (first_line s.file x) ≡ false = ap drawn here ∙ is in absurd cc)
          (cases_lt a (first_line s.file x))))
