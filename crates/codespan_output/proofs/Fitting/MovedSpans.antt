-- For `FitsOnce`: what has to be shown of a line has to be shown of the line that is shown of it.
use Rattle.codespan_core.proofs.Std.{◌≡◌, ℕ, ◌+◌, ◌-◌, ◌<◌, ◌≤◌, Bool, true, false, List, [], ◌∷◌}
use Rattle.codespan_core.proofs.Std.{◌++◌, map, flat_map, ◌⊎◌, inl, inr, refl, sym, ap, subst, ◌∙◌}
use Rattle.codespan_core.proofs.Std.{arith, ⊎_elim, cases_lt, false≢true, AllByRecursion}
use Rattle.codespan_core.proofs.Std.{if◌then◌else◌}
use Rattle.codespan_core.specs.Labels.{LabelModel, LaneMark, MultiLabel, Top, Left, Bottom}
use Rattle.codespan_output.specs.{Piece, moved, moved_label, moved_mark, moved_multi_label, is_kept}
use Rattle.codespan_output.specs.{is_needed, first_byte, last_byte, end_spans, mark_spans}
use Rattle.codespan_output.specs.{or_line_start, begins_in_source_row, LabelIsKept, MarkIsKept}
use Rattle.codespan_output.proofs.Fitting.Moved.{DotsShorten, moved-rises, moved-start, moved-step}
use Rattle.codespan_output.proofs.Fitting.NeededBytes.{in-span, in-either, needed-in, needed-before}
use Rattle.codespan_output.proofs.Fitting.NeededBytes.{needed-behind, needed-or_start}
use Rattle.codespan_output.proofs.Fitting.ShownBytes.{kept-strict}
use Rattle.codespan_output.proofs.Fitting.ShownParts.{HasEnds}

module _ (ps : List Piece) (short : DotsShorten ps) (n shown : ℕ) (size : shown ≡ moved ps n)
    (past : is_kept ps n ≡ true) where
  -- ---- the first and the last byte of a label

  -- the end of the text follows its last byte
  end-step : 0 < n → is_kept ps (n - 1) ≡ true → shown ≡ moved ps (n - 1) + 1
  end-step some k =
      let e : n - 1 + 1 ≡ n = omega arith in
      omega (arith, size, moved-step ps short (n - 1) k, ap (moved ps) e)

  pub first-moved : (start : ℕ) → is_kept ps (first_byte n start) ≡ true
      → first_byte shown (moved ps start) ≡ moved ps (first_byte n start)
  first-moved start k =
      ⊎_elim
      (λ (a : start < n). let e : first_byte n start ≡ start = omega arith in
      omega (arith, size, kept-strict ps start n a past, ap (moved ps) e))
      (λ (a : n ≤ start). ⊎_elim
      (λ (b : 0 < n). let e : first_byte n start ≡ n - 1 = omega arith in
      omega (
        arith,
        end-step b (sym (ap (is_kept ps) e) ∙ k),
        size,
        ap (moved ps) e,
        moved-rises ps n start a,
      ))
      (λ (b : n ≤ 0). let e : first_byte n start ≡ 0 = omega arith in
      let f : n ≡ 0 = omega arith in
      omega (arith, size, ap (moved ps) e, ap (moved ps) f, moved-start ps short))
      (cases_lt 0 n))
      (cases_lt start n)

  pub last-moved : (end : ℕ) → is_kept ps (last_byte n end) ≡ true
      → last_byte shown (moved ps end) ≡ moved ps (last_byte n end)
  last-moved end k =
      ⊎_elim
      (λ (a : n < end). ⊎_elim
      (λ (b : 0 < n). let e : last_byte n end ≡ n - 1 = omega arith in
      omega (
        arith,
        end-step b (sym (ap (is_kept ps) e) ∙ k),
        size,
        ap (moved ps) e,
        moved-rises ps n end (omega arith),
      ))
      (λ (b : n ≤ 0). let e : last_byte n end ≡ 0 = omega arith in
      let f : n ≡ 0 = omega arith in
      omega (arith, size, ap (moved ps) e, ap (moved ps) f, moved-start ps short))
      (cases_lt 0 n))
      (λ (a : end ≤ n). ⊎_elim
      (λ (b : 0 < end). let e : last_byte n end ≡ end - 1 = omega arith in
      let f : end - 1 + 1 ≡ end = omega arith in
      omega (
        arith,
        moved-step ps short (end - 1) (sym (ap (is_kept ps) e) ∙ k),
        ap (moved ps) f,
        size,
        ap (moved ps) e,
        moved-rises ps end n a,
      ))
      (λ (b : end ≤ 0). let e : last_byte n end ≡ 0 = omega arith in
      let f : end ≡ 0 = omega arith in
      omega (arith, size, ap (moved ps) e, ap (moved ps) f, moved-start ps short))
      (cases_lt 0 end))
      (cases_lt n end)

  -- ---- labels

  module _ (label_spans : ℕ → LabelModel → List (ℕ × ℕ)) where
    label-moved : (xs : List LabelModel) → AllByRecursion (LabelIsKept ps n) xs
        → AllByRecursion (λ (x : LabelModel). HasEnds label_spans shown (moved_label ps x)) xs
        → (y : ℕ) → is_needed (flat_map (end_spans n) xs) y (y + 1) ≡ true
        → is_needed (flat_map (label_spans shown) (map (moved_label ps) xs)) (moved ps y)
        (moved ps y + 1)
        ≡ true
    label-moved [] k has y h = absurd (false≢true h)
    label-moved (x ∷ xs) k has y h =
        by_span (label-moved xs k.1 has.1 y)
        (in-span (first_byte n x.start) (first_byte n x.start)
        ((last_byte n x.end, last_byte n x.end) ∷ flat_map (end_spans n) xs) y h)
      where
        later : List (ℕ × ℕ)
        later = flat_map (label_spans shown) (map (moved_label ps) xs)

        here : (z : ℕ) → z ≡ moved ps y
            → is_needed (label_spans shown (moved_label ps x)) z (z + 1) ≡ true
            → is_needed (label_spans shown (moved_label ps x) ++ later) (moved ps y)
            (moved ps y + 1) ≡ true
        here z e a =
            needed-before (label_spans shown (moved_label ps x)) later (moved ps y)
            (subst (λ w. is_needed (label_spans shown (moved_label ps x)) w (w + 1) ≡ true) e a)

        by_span : (is_needed (flat_map (end_spans n) xs) y (y + 1) ≡ true
            → is_needed later (moved ps y) (moved ps y + 1) ≡ true)
            → ((first_byte n x.start ≤ y) × (y ≤ first_byte n x.start))
            ⊎ (is_needed ((last_byte n x.end, last_byte n x.end) ∷ flat_map (end_spans n) xs) y
            (y + 1) ≡ true)
            → is_needed (label_spans shown (moved_label ps x) ++ later) (moved ps y)
            (moved ps y + 1) ≡ true
        by_span again (inl a) =
            let e : first_byte n x.start ≡ y = omega arith in
            here (first_byte shown (moved ps x.start))
            (first-moved x.start k.0.first ∙ ap (moved ps) e) has.0.first
        by_span again (inr a) = by_last again
            (in-span (last_byte n x.end) (last_byte n x.end) (flat_map (end_spans n) xs) y a)
          where
            by_last : (is_needed (flat_map (end_spans n) xs) y (y + 1) ≡ true
                → is_needed later (moved ps y) (moved ps y + 1) ≡ true)
                → ((last_byte n x.end ≤ y) × (y ≤ last_byte n x.end))
                ⊎ (is_needed (flat_map (end_spans n) xs) y (y + 1) ≡ true)
                → is_needed (label_spans shown (moved_label ps x) ++ later) (moved ps y)
                (moved ps y + 1) ≡ true
            by_last again (inl b) =
                let e : last_byte n x.end ≡ y = omega arith in
                here (last_byte shown (moved ps x.end))
                (last-moved x.end k.0.last ∙ ap (moved ps) e) has.0.last
            by_last again (inr b) =
                needed-behind (label_spans shown (moved_label ps x)) later (moved ps y) (again b)

    no-labels : (xs : List LabelModel) → flat_map (end_spans n) xs ≡ []
        → flat_map (label_spans shown) (map (moved_label ps) xs) ≡ []
    no-labels [] h = refl
    no-labels (x ∷ xs) h = cc

  -- ---- multi-line labels

  module _ (leading shown_leading : ℕ) where
    -- the corner of a multi-line label stays in the source row, or out of it
    abbrev pub CornerStays : MultiLabel → Type 0
    CornerStays (Top start) =
        begins_in_source_row shown_leading (moved ps start) ≡ begins_in_source_row leading start
    CornerStays Left = Unit
    CornerStays (Bottom end message) = Unit

    mark-moved : (m : MultiLabel) → MarkIsKept ps n leading m → CornerStays m → (y : ℕ)
        → is_needed (mark_spans n leading m) y (y + 1) ≡ true
        → is_needed (mark_spans shown shown_leading (moved_multi_label ps m)) (moved ps y)
        (moved ps y + 1) ≡ true
    mark-moved (Top start) k corner y h =
        subst
        (λ b. is_needed ((
          (if b then 0 else first_byte shown (moved ps start)),
          first_byte shown (moved ps start),
        ) ∷ []) (moved ps y) (moved ps y + 1) ≡ true)
        (sym corner)
        (by_corner (begins_in_source_row leading start)
        (in-span (if begins_in_source_row leading start then 0 else first_byte n start)
        (first_byte n start) [] y h))
      where
        first : first_byte shown (moved ps start) ≡ moved ps (first_byte n start)
        first = first-moved start k.0

        by_corner : (b : Bool)
            → (((if b then 0 else first_byte n start) ≤ y) × (y ≤ first_byte n start))
            ⊎ (false ≡ true)
            → is_needed ((
              (if b then 0 else first_byte shown (moved ps start)),
              first_byte shown (moved ps start),
            ) ∷ []) (moved ps y) (moved ps y + 1) ≡ true
        by_corner b (inr a) = absurd (false≢true a)
        by_corner true (inl a) =
            needed-in 0 (first_byte shown (moved ps start)) [] (moved ps y) (omega arith)
            (omega (arith, first, moved-rises ps y (first_byte n start) a.1))
        by_corner false (inl a) =
            let e : y ≡ first_byte n start = omega arith in
            needed-in (first_byte shown (moved ps start)) (first_byte shown (moved ps start)) []
            (moved ps y) (omega (arith, first, ap (moved ps) e))
            (omega (arith, first, ap (moved ps) e))
    mark-moved Left k corner y h = absurd (false≢true h)
    mark-moved (Bottom end message) k corner y h =
        by_last (in-span (last_byte n end) (last_byte n end) [] y h)
      where
        by_last : ((last_byte n end ≤ y) × (y ≤ last_byte n end)) ⊎ (false ≡ true)
            → is_needed ((last_byte shown (moved ps end), last_byte shown (moved ps end)) ∷ [])
            (moved ps y) (moved ps y + 1) ≡ true
        by_last (inr a) = absurd (false≢true a)
        by_last (inl a) =
            let e : y ≡ last_byte n end = omega arith in
            needed-in (last_byte shown (moved ps end)) (last_byte shown (moved ps end)) []
            (moved ps y) (omega (arith, last-moved end k, ap (moved ps) e))
            (omega (arith, last-moved end k, ap (moved ps) e))

    -- the spans of these marks of the line, and of them where they are moved to
    abbrev pub mark_list : List LaneMark → List (ℕ × ℕ)
    mark_list ms = flat_map (λ (m : LaneMark). mark_spans n leading m.multi_label) ms

    abbrev pub shown_mark_list : List LaneMark → List (ℕ × ℕ)
    shown_mark_list ms =
        flat_map (λ (m : LaneMark). mark_spans shown shown_leading m.multi_label)
        (map (moved_mark ps) ms)

    marks-moved : (ms : List LaneMark)
        → AllByRecursion (λ (m : LaneMark). MarkIsKept ps n leading m.multi_label) ms
        → AllByRecursion (λ (m : LaneMark). CornerStays m.multi_label) ms → (y : ℕ)
        → is_needed (mark_list ms) y (y + 1) ≡ true
        → is_needed (shown_mark_list ms) (moved ps y) (moved ps y + 1) ≡ true
    marks-moved [] k corner y h = absurd (false≢true h)
    marks-moved (m ∷ ms) k corner y h =
        ⊎_elim
        (λ (a : is_needed (mark_spans n leading m.multi_label) y (y + 1) ≡ true).
        needed-before (mark_spans shown shown_leading (moved_multi_label ps m.multi_label))
        (shown_mark_list ms) (moved ps y) (mark-moved m.multi_label k.0 corner.0 y a))
        (λ (a : is_needed (mark_list ms) y (y + 1) ≡ true).
        needed-behind (mark_spans shown shown_leading (moved_multi_label ps m.multi_label))
        (shown_mark_list ms) (moved ps y) (marks-moved ms k.1 corner.1 y a))
        (in-either (mark_spans n leading m.multi_label) (mark_list ms) y h)

    no-marks : (ms : List LaneMark) → mark_list ms ≡ [] → shown_mark_list ms ≡ []
    no-marks [] h = refl
    no-marks (m ∷ ms) h = by_mark m.multi_label (no-marks ms) h
      where
        by_mark : (k : MultiLabel) → (mark_list ms ≡ [] → shown_mark_list ms ≡ [])
            → mark_spans n leading k ++ mark_list ms ≡ []
            → mark_spans shown shown_leading (moved_multi_label ps k) ++ shown_mark_list ms ≡ []
        by_mark (Top start) again e = cc
        by_mark Left again e = again e
        by_mark (Bottom end message) again e = cc

    -- ---- all that is needed

    or-start : (ss : List (ℕ × ℕ)) (y : ℕ) → is_needed (or_line_start ss) y (y + 1) ≡ true
        → (is_needed ss y (y + 1) ≡ true) ⊎ ((ss ≡ []) × (y ≡ 0))
    or-start [] y h =
        ⊎_elim (λ (a : (0 ≤ y) × (y ≤ 0)). inr ((refl, omega arith)))
        (λ (a : false ≡ true). inl a) (in-span 0 0 [] y h)
    or-start (s ∷ ss) y h = inl h

    none-parts : (ss ts : List (ℕ × ℕ)) → ss ++ ts ≡ [] → (ss ≡ []) × (ts ≡ [])
    none-parts [] ts h = (refl, h)
    none-parts (s ∷ ss) ts h = cc

    -- what is needed of the line is needed where it is moved to
    pub spans-moved : (label_spans : ℕ → LabelModel → List (ℕ × ℕ)) (xs : List LabelModel)
        (ms : List LaneMark) → AllByRecursion (LabelIsKept ps n) xs
        → AllByRecursion (λ (x : LabelModel). HasEnds label_spans shown (moved_label ps x)) xs
        → AllByRecursion (λ (m : LaneMark). MarkIsKept ps n leading m.multi_label) ms
        → AllByRecursion (λ (m : LaneMark). CornerStays m.multi_label) ms → (y : ℕ)
        → is_needed (or_line_start (flat_map (end_spans n) xs ++ mark_list ms)) y (y + 1) ≡ true
        → is_needed
        (or_line_start
        (flat_map (label_spans shown) (map (moved_label ps) xs) ++ shown_mark_list ms))
        (moved ps y) (moved ps y + 1) ≡ true
    spans-moved label_spans xs ms k has km corner y h =
        ⊎_elim
        (λ (a : is_needed (flat_map (end_spans n) xs ++ mark_list ms) y (y + 1) ≡ true).
        needed-or_start (labels ++ shown_mark_list ms) (moved ps y)
        (⊎_elim
        (λ (b : is_needed (flat_map (end_spans n) xs) y (y + 1) ≡ true).
        needed-before labels (shown_mark_list ms) (moved ps y)
        (label-moved label_spans xs k has y b))
        (λ (b : is_needed (mark_list ms) y (y + 1) ≡ true).
        needed-behind labels (shown_mark_list ms) (moved ps y) (marks-moved ms km corner y b))
        (in-either (flat_map (end_spans n) xs) (mark_list ms) y a)))
        (λ (a : (flat_map (end_spans n) xs ++ mark_list ms ≡ []) × (y ≡ 0)).
        let parts = none-parts (flat_map (end_spans n) xs) (mark_list ms) a.0 in
        let none : labels ++ shown_mark_list ms ≡ [] =
        ap (λ ss. ss ++ shown_mark_list ms) (no-labels label_spans xs parts.0)
        ∙ no-marks ms parts.1 in
        let zero : moved ps y ≡ 0 = ap (moved ps) a.1 ∙ moved-start ps short in
        ap (λ ss. is_needed (or_line_start ss) (moved ps y) (moved ps y + 1)) none
        ∙ needed-in 0 0 [] (moved ps y) (omega arith) (omega (arith, zero)))
        (or-start (flat_map (end_spans n) xs ++ mark_list ms) y h)
      where
        labels : List (ℕ × ℕ)
        labels = flat_map (label_spans shown) (map (moved_label ps) xs)
