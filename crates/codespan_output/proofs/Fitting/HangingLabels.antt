-- For `FittedIsLine`: the same labels hang on a line that is shortened, since each label's
-- last byte is shown.
use Rattle.codespan_core.proofs.Std.{◌≡◌, ℕ, ◌<◌, ◌≤◌, max, min, Bool, true, false, not, ◌&&◌, ◌||◌}
use Rattle.codespan_core.proofs.Std.{◌==◌, nat_lt, List, [], ◌∷◌, ◌++◌, map, filter, fold, Option}
use Rattle.codespan_core.proofs.Std.{Some, None, option_map, ⊎_elim, refl, sym, ap, ap₂, subst, ◌∙◌}
use Rattle.codespan_core.proofs.Std.{arith, cases_lt, lt-ltb, le-ltb, eq-eqb, ne_eqb}
use Rattle.codespan_core.proofs.Std.{AllByRecursion, if◌then◌else◌, map-append}
use Rattle.codespan_core.specs.Labels.{LabelModel, has_message}
use Rattle.codespan_output.specs.{Piece, moved, moved_label, is_overlapping, max_label_end}
use Rattle.codespan_output.specs.{hanging_labels}
use Rattle.codespan_output.specs.Private.{overlaps_any}
use Rattle.codespan_output.proofs.Fitting.Moved.{DotsShorten, moved-rises, moved-start}
use Rattle.codespan_output.proofs.Messages.Pass.{Around, others, behind, around_with_end, around_is}
use Rattle.codespan_output.proofs.Messages.Pass.{around_trails, around_rightmost, hanging_of}
use Rattle.codespan_output.proofs.Messages.Rightmost.{hanging_is}

-- what holds of the elements of two lists together holds of those of each
all-parts : {X : Type 0} (P : X → Type 0) (xs ys : List X) → AllByRecursion P (xs ++ ys)
    → AllByRecursion P xs × AllByRecursion P ys
all-parts P [] ys h = (tt, h)
all-parts P (x ∷ xs) ys h = let rest = all-parts P xs ys h.1 in ((h.0, rest.0), rest.1)

-- what is before the index is moved before it
abbrev pub StaysAfter : List Piece → ℕ → Type 0
StaysAfter ps end = (x : ℕ) → x < end → moved ps x < moved ps end

-- so it is for the ends of these labels
abbrev pub EndsStay : List Piece → List LabelModel → Type 0
EndsStay ps labels = AllByRecursion (λ (x : LabelModel). StaysAfter ps x.end) labels

module _ (ps : List Piece) where
  -- ---- tests of indices

  moved-max : (x y : ℕ) → max (moved ps x) (moved ps y) ≡ moved ps (max x y)
  moved-max x y =
      ⊎_elim
      (λ (h : x < y). let e : max x y ≡ y = omega arith in
      omega (arith, ap (moved ps) e, moved-rises ps x y (omega arith)))
      (λ (h : y ≤ x). let e : max x y ≡ x = omega arith in
      omega (arith, ap (moved ps) e, moved-rises ps y x (omega arith)))
      (cases_lt x y)

  moved-min : (x y : ℕ) → min (moved ps x) (moved ps y) ≡ moved ps (min x y)
  moved-min x y =
      ⊎_elim
      (λ (h : x < y). let e : min x y ≡ x = omega arith in
      omega (arith, ap (moved ps) e, moved-rises ps x y (omega arith)))
      (λ (h : y ≤ x). let e : min x y ≡ y = omega arith in
      omega (arith, ap (moved ps) e, moved-rises ps y x (omega arith)))
      (cases_lt x y)

  pub less-same : (x end : ℕ) → StaysAfter ps end
      → nat_lt (moved ps x) (moved ps end) ≡ nat_lt x end
  less-same x end h =
      ⊎_elim
      (λ (a : x < end). lt-ltb (moved ps x) (moved ps end) (h x a) ∙ sym (lt-ltb x end a))
      (λ (a : end ≤ x). le-ltb (moved ps x) (moved ps end) (moved-rises ps end x a)
      ∙ sym (le-ltb x end a))
      (cases_lt x end)

  equal-same : (x y : ℕ) → StaysAfter ps x → StaysAfter ps y
      → (moved ps x == moved ps y) ≡ (x == y)
  equal-same x y h k =
      ⊎_elim
      (λ (a : x < y). let less = k x a in
      ne_eqb (moved ps x) (moved ps y) (λ e. omega arith) ∙ sym (ne_eqb x y (λ e. omega arith)))
      (λ (a : y ≤ x). ⊎_elim
      (λ (b : y < x). let less = h y b in
      ne_eqb (moved ps x) (moved ps y) (λ e. omega arith) ∙ sym (ne_eqb x y (λ e. omega arith)))
      (λ (b : x ≤ y). let e : x ≡ y = omega arith in
      eq-eqb (moved ps x) (moved ps y) (ap (moved ps) e) ∙ sym (eq-eqb x y e))
      (cases_lt y x))
      (cases_lt x y)

  stays-max : (x y : ℕ) → StaysAfter ps x → StaysAfter ps y → StaysAfter ps (max x y)
  stays-max x y h k =
      ⊎_elim
      (λ (a : x < y). let e : y ≡ max x y = omega arith in subst (StaysAfter ps) e k)
      (λ (a : y ≤ x). let e : x ≡ max x y = omega arith in subst (StaysAfter ps) e h)
      (cases_lt x y)

  stays-min : (x y : ℕ) → StaysAfter ps x → StaysAfter ps y → StaysAfter ps (min x y)
  stays-min x y h k =
      ⊎_elim
      (λ (a : x < y). let e : x ≡ min x y = omega arith in subst (StaysAfter ps) e h)
      (λ (a : y ≤ x). let e : y ≡ min x y = omega arith in subst (StaysAfter ps) e k)
      (cases_lt x y)

  -- ---- the greatest end

  greatest : (labels : List LabelModel) (m : ℕ)
      → fold (λ n (x : LabelModel). max n x.end) (moved ps m) (map (moved_label ps) labels)
      ≡ moved ps (fold (λ n (x : LabelModel). max n x.end) m labels)
  greatest [] m = refl
  greatest (x ∷ xs) m =
      ap (λ k. fold (λ n (y : LabelModel). max n y.end) k (map (moved_label ps) xs))
      (moved-max m x.end)
      ∙ greatest xs (max m x.end)

  greatest-stays : (labels : List LabelModel) (m : ℕ) → EndsStay ps labels → StaysAfter ps m
      → StaysAfter ps (fold (λ n (x : LabelModel). max n x.end) m labels)
  greatest-stays [] m h k = k
  greatest-stays (x ∷ xs) m h k = greatest-stays xs (max m x.end) h.1 (stays-max m x.end k h.0)

  -- ---- overlaps

  pub overlapping : (x y : LabelModel) → StaysAfter ps x.end → StaysAfter ps y.end
      → is_overlapping (moved_label ps x) (moved ps y.start) (moved ps y.end)
      ≡ is_overlapping x y.start y.end
  overlapping x y h k =
      ap₂ nat_lt (moved-max x.start y.start) (moved-min x.end y.end)
      ∙ less-same (max x.start y.start) (min x.end y.end) (stays-min x.end y.end h k)

  overlapping-any : (x : LabelModel) (ys : List LabelModel) → StaysAfter ps x.end
      → EndsStay ps ys
      → overlaps_any (moved_label ps x) (map (moved_label ps) ys) ≡ overlaps_any x ys
  overlapping-any x [] h k = refl
  overlapping-any x (y ∷ ys) h k =
      ap₂ (λ a b. a || b) (overlapping x y h k.0) (overlapping-any x ys h k.1)

  -- ---- the label that trails

  moved_around : Around → Around
  moved_around a = record {
    before = map (moved_label ps) a.before;
    here = moved_label ps a.here;
    after = map (moved_label ps) a.after;
  }

  around : (end : ℕ) (xs : List LabelModel) → StaysAfter ps end → EndsStay ps xs
      → around_with_end (moved ps end) (map (moved_label ps) xs)
      ≡ option_map moved_around (around_with_end end xs)
  unfolding moved_around
  around end [] h k = refl
  around end (x ∷ xs) h k =
      ap₂ (λ r b. behind (moved_label ps x) r
      (if b then Some (record {
        before = [];
        here = moved_label ps x;
        after = map (moved_label ps) xs;
      }) else None))
      (around end xs h k.1) (equal-same x.end end k.0 h)
      ∙ by_rest (around_with_end end xs) (x.end == end)
    where
      by_rest : (rest : Option Around) (b : Bool)
          → behind (moved_label ps x) (option_map moved_around rest)
          (if b then Some (record {
            before = [];
            here = moved_label ps x;
            after = map (moved_label ps) xs;
          }) else None)
          ≡ option_map moved_around
          (behind x rest (if b then Some (record { before = []; here = x; after = xs }) else None))
      by_rest None true = refl
      by_rest None false = refl
      by_rest (Some a) b = refl

  others-moved : (a : Around) → others (moved_around a) ≡ map (moved_label ps) (others a)
  unfolding moved_around
  others-moved a = sym (map-append (moved_label ps) a.before a.after)

  trails : (a : Around) → StaysAfter ps a.here.end → EndsStay ps (others a)
      → around_trails (moved_around a) ≡ around_trails a
  unfolding moved_around
  trails a h k =
      ap (λ b. has_message a.here && not b)
      (ap (overlaps_any (moved_label ps a.here)) (others-moved a)
      ∙ overlapping-any a.here (others a) h k)

  with_message : (xs : List LabelModel) → filter has_message (map (moved_label ps) xs)
      ≡ map (moved_label ps) (filter has_message xs)
  with_message [] = refl
  with_message (x ∷ xs) = by_test (has_message x) (with_message xs)
    where
      by_test : (b : Bool)
          → filter has_message (map (moved_label ps) xs)
          ≡ map (moved_label ps) (filter has_message xs)
          → (if b then moved_label ps x ∷ filter has_message (map (moved_label ps) xs)
          else filter has_message (map (moved_label ps) xs))
          ≡ map (moved_label ps)
          (if b then x ∷ filter has_message xs else filter has_message xs)
      by_test true rest = ap (λ ys. moved_label ps x ∷ ys) rest
      by_test false rest = rest

  module _ (short : DotsShorten ps) where
    -- the greatest end is moved
    pub greatest-end : (labels : List LabelModel)
        → max_label_end (map (moved_label ps) labels) ≡ moved ps (max_label_end labels)
    greatest-end labels =
        ap (λ m. fold (λ n (x : LabelModel). max n x.end) m (map (moved_label ps) labels))
        (sym (moved-start ps short))
        ∙ greatest labels 0

    rightmost : (labels : List LabelModel) → EndsStay ps labels
        → around_rightmost (map (moved_label ps) labels)
        ≡ option_map moved_around (around_rightmost labels)
    rightmost labels h =
        ap (λ e. around_with_end e (map (moved_label ps) labels))
        (greatest-end labels)
        ∙ around (max_label_end labels) labels
        (greatest-stays labels 0 h (λ x less. absurd (omega arith))) h

    -- the labels that hang are moved
    pub hanging_labels-moved : (labels : List LabelModel) → EndsStay ps labels
        → hanging_labels (map (moved_label ps) labels)
        ≡ map (moved_label ps) (hanging_labels labels)
    unfolding moved_around
    hanging_labels-moved labels h =
        hanging_is (map (moved_label ps) labels)
        ∙ ap (hanging_of (map (moved_label ps) labels)) (rightmost labels h)
        ∙ by_around (around_rightmost labels) refl
        ∙ ap (map (moved_label ps)) (sym (hanging_is labels))
      where
        by_test : (a : Around) (b : Bool)
            → filter has_message (if b then map (moved_label ps) (others a)
            else map (moved_label ps) labels)
            ≡ map (moved_label ps) (filter has_message (if b then others a else labels))
        by_test a true = with_message (others a)
        by_test a false = with_message labels

        stay : (a : Around) → around_rightmost labels ≡ Some a
            → EndsStay ps (a.before ++ (a.here ∷ a.after))
        stay a is = subst (EndsStay ps)
            (sym (around_is (max_label_end labels) labels a is)) h

        others-stay : (a : Around) → EndsStay ps (a.before ++ (a.here ∷ a.after))
            → EndsStay ps (others a)
        others-stay a k = together (all-parts (λ (x : LabelModel). StaysAfter ps x.end) a.before
            (a.here ∷ a.after) k)
          where
            append : (xs : List LabelModel) → EndsStay ps xs → EndsStay ps a.after
                → EndsStay ps (xs ++ a.after)
            append [] p q = q
            append (x ∷ xs) p q = (p.0, append xs p.1 q)

            together : EndsStay ps a.before × EndsStay ps (a.here ∷ a.after)
                → EndsStay ps (others a)
            together p = append a.before p.0 p.1.1

        by_around : (r : Option Around) → around_rightmost labels ≡ r
            → hanging_of (map (moved_label ps) labels) (option_map moved_around r)
            ≡ map (moved_label ps) (hanging_of labels r)
        by_around None is = refl
        by_around (Some a) is =
            let k = stay a is in
            let parts = all-parts (λ (x : LabelModel). StaysAfter ps x.end) a.before
            (a.here ∷ a.after) k in
            ap₂ (λ b xs. filter has_message (if b then xs else map (moved_label ps) labels))
            (trails a parts.1.0 (others-stay a k)) (others-moved a)
            ∙ by_test a (around_trails a)
