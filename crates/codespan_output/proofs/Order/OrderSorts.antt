-- For `sorted_is_stable_sort` and `reordering_changes_nothing`: the order of a line's labels. Only
-- the order of the labels of each range counts, and is kept.
use Rattle.codespan_core.proofs.Std.{◌≡◌, ℕ, Bool, true, false, ◌==◌, ◌&&◌, cond}
use Rattle.codespan_core.proofs.Std.{List, [], ◌∷◌, filter, ⊎_elim, refl, sym, ap, subst}
use Rattle.codespan_core.proofs.Std.{◌∙◌, arith, cases_Bool, cond_both, eq-eqb, nat_tests}
use Rattle.codespan_core.proofs.Std.{IsPermutation-refl, IsPermutation-trans, IsPermutation-cons}
use Rattle.codespan_core.proofs.Std.{IsStrictWeakOrder, AllByRecursion, IsPermutation}
use Rattle.std.proofs.lemmas.Bool.{both_ways, false_from_ne_true}
use Rattle.std.proofs.lemmas.List.Sorted.{IsPermutation-insert}
use Rattle.std.specs.List.Sorted.{IsStableBy, ties}
use Rattle.codespan_core.specs.Labels.{LabelModel, range_precedes, insert_sorted, sorted}
use Rattle.codespan_output.specs.Types.{Primary}
use Rattle.codespan_output.specs.{SortedIsStableSort}
use mathlib.Core.Path.{fun_ext}
use Rattle.codespan_output.proofs.Utf8.ListElements.{all-weaker, filter-nothing}
use Rattle.codespan_output.proofs.Order.SortedLists.{Rises, rises-from_sorted, sorted_from_rises}

-- ---- the order

-- the label has this range
abbrev pub has_range : ℕ → ℕ → LabelModel → Bool
has_range start end x = (x.start == start) && (x.end == end)

-- of two labels at most one is before the other
before_one_way : (x y : LabelModel) → range_precedes x y ≡ true → range_precedes y x ≡ false
before_one_way x y h = grind (arith, nat_tests)

-- no label is before itself
not_before_itself : (x : LabelModel) → range_precedes x x ≡ false
not_before_itself x =
    false_from_ne_true (range_precedes x x)
    (λ t. both_ways (range_precedes x x) (before_one_way x x t) t)

-- where `x` is not before `y`, and `y` not before `z`, `x` is not before `z`
before_chain : (x y z : LabelModel) → range_precedes x y ≡ false
    → range_precedes y z ≡ false
    → range_precedes x z ≡ false
before_chain x y z h k = grind (arith, nat_tests)

-- labels have one range where neither is before the other
one_range : (x y : LabelModel) → range_precedes x y ≡ false → range_precedes y x ≡ false
    → has_range x.start x.end y ≡ true
one_range x y h k = grind (arith, nat_tests)

-- a label has its own range
own_range : (x : LabelModel) → has_range x.start x.end x ≡ true
own_range x = rw (eq-eqb x.start x.start refl, eq-eqb x.end x.end refl) refl

-- a label that is before another has not its range
apart : (start end : ℕ) (x y : LabelModel) → range_precedes x y ≡ true
    → has_range start end x ≡ true → has_range start end y ≡ false
apart start end x y h k = grind (arith, nat_tests)

-- labels of one range are before the same labels
before_equal : (x y z : LabelModel) → has_range x.start x.end y ≡ true
    → range_precedes x z ≡ true
    → range_precedes y z ≡ true
before_equal x y z h k = grind (arith, nat_tests)

-- ---- a label inserted in order

-- of the labels of one range the inserted one is first
insert_sorted-keeps : (start end : ℕ) (x : LabelModel) (ys : List LabelModel)
    → filter (has_range start end) (insert_sorted x ys)
    ≡ filter (has_range start end) (x ∷ ys)
insert_sorted-keeps start end x [] = refl
insert_sorted-keeps start end x (y ∷ ys) =
    ⊎_elim
    (λ (t : range_precedes y x ≡ true). ⊎_elim
    (λ (u : has_range start end y ≡ true). let v : has_range start end x ≡ false =
    apart start end y x t u in
    rw (t, insert_sorted-keeps start end x ys, u, v) refl)
    (λ (u : has_range start end y ≡ false). rw (t, insert_sorted-keeps start end x ys, u) refl)
    (cases_Bool (has_range start end y)))
    (λ (t : range_precedes y x ≡ false). rw t refl)
    (cases_Bool (range_precedes y x))

-- the labels of one range stay in order
pub sorted-keeps : (start end : ℕ) (xs : List LabelModel)
    → filter (has_range start end) (sorted xs) ≡ filter (has_range start end) xs
sorted-keeps start end [] = refl
sorted-keeps start end (x ∷ xs) =
    insert_sorted-keeps start end x (sorted xs)
    ∙ ap (λ (ys : List LabelModel). cond (has_range start end x) (x ∷ ys) ys)
    (sorted-keeps start end xs)

-- ---- labels in order

-- no label is before an earlier one
abbrev pub Ascends : List LabelModel → Type 0
Ascends = Rises range_precedes

-- what holds of the inserted label and of the others holds of all
pub each-insert_sorted : (P : LabelModel → Type 0) (x : LabelModel) (ys : List LabelModel) → P x
    → AllByRecursion P ys → AllByRecursion P (insert_sorted x ys)
each-insert_sorted P x [] h k = (h, tt)
each-insert_sorted P x (y ∷ ys) h k =
    cond_both (range_precedes y x) (y ∷ insert_sorted x ys) (x ∷ y ∷ ys) (AllByRecursion P)
    (λ _. (k.0, each-insert_sorted P x ys h k.1)) (λ _. (h, k))

-- labels in order stay in order where one is inserted
insert_sorted-ascends : (x : LabelModel) (ys : List LabelModel) → Ascends ys
    → Ascends (insert_sorted x ys)
insert_sorted-ascends x [] h = (tt, tt)
insert_sorted-ascends x (y ∷ ys) h =
    cond_both (range_precedes y x) (y ∷ insert_sorted x ys) (x ∷ y ∷ ys) Ascends
    (λ t. (
      each-insert_sorted (λ z. range_precedes z y ≡ false) x ys (before_one_way y x t) h.0,
      insert_sorted-ascends x ys h.1,
    ))
    (λ t. (
      (
        t,
        all-weaker (λ z. range_precedes z y ≡ false) (λ z. range_precedes z x ≡ false)
            (λ z k. before_chain z y x k t) ys h.0,
      ),
      h,
    ))

-- sorted labels are in order
pub sorted-ascends : (xs : List LabelModel) → Ascends (sorted xs)
sorted-ascends [] = tt
sorted-ascends (x ∷ xs) = insert_sorted-ascends x (sorted xs) (sorted-ascends xs)

-- ---- labels in order are fixed by those of each range

-- a label that is before the first one has a range that none of them has
none_of_range : (x y : LabelModel) (ys : List LabelModel) → range_precedes x y ≡ true
    → AllByRecursion (λ z. range_precedes z y ≡ false) ys
    → AllByRecursion (λ z. has_range x.start x.end z ≡ false) ys
none_of_range x y ys h k =
    all-weaker (λ z. range_precedes z y ≡ false) (λ z. has_range x.start x.end z ≡ false)
    (λ z e. false_from_ne_true (has_range x.start x.end z)
    (λ t. both_ways (range_precedes z y) e (before_equal x z y t h)))
    ys k

-- of the labels of a label's range it is the first
own_first : (x : LabelModel) (xs : List LabelModel)
    → filter (has_range x.start x.end) (x ∷ xs) ≡ x ∷ filter (has_range x.start x.end) xs
own_first x xs = rw (own_range x) refl

-- a label whose range one of the list has is not before the first of them
not_before : (x y : LabelModel) (xs ys : List LabelModel)
    → AllByRecursion (λ z. range_precedes z y ≡ false) ys
    → filter (has_range x.start x.end) (x ∷ xs) ≡ filter (has_range x.start x.end) (y ∷ ys)
    → range_precedes x y ≡ false
not_before x y xs ys h same = false_from_ne_true (range_precedes x y)
    (λ t. some
    (sym (own_first x xs) ∙ same
    ∙ filter-nothing (has_range x.start x.end) (y ∷ ys)
    (none_of_range x y (y ∷ ys) t (not_before_itself y, h))))
  where
    some : x ∷ filter (has_range x.start x.end) xs ≡ [] → ⊥
    some e = cc

-- the same labels of each range, in order
abbrev pub SameRanges : List LabelModel → List LabelModel → Type 0
SameRanges xs ys =
    (start end : ℕ) → filter (has_range start end) xs ≡ filter (has_range start end) ys

-- what is left after the first label
same-rest : (x : LabelModel) (xs ys : List LabelModel) → SameRanges (x ∷ xs) (x ∷ ys)
    → SameRanges xs ys
same-rest x xs ys same start end = by_test (has_range start end x) (same start end)
  where
    by_test : (b : Bool)
        → cond b (x ∷ filter (has_range start end) xs) (filter (has_range start end) xs)
        ≡ cond b (x ∷ filter (has_range start end) ys) (filter (has_range start end) ys)
        → filter (has_range start end) xs ≡ filter (has_range start end) ys
    by_test true e = cc
    by_test false e = e

-- two lists of labels in order are equal where their labels of each range are
pub ascending-same : (xs ys : List LabelModel) → Ascends xs → Ascends ys → SameRanges xs ys
    → xs ≡ ys
ascending-same [] [] a b same = refl
ascending-same [] (y ∷ ys) a b same = let e = same y.start y.end ∙ own_first y ys in cc
ascending-same (x ∷ xs) [] a b same = let e = sym (own_first x xs) ∙ same x.start x.end in cc
ascending-same (x ∷ xs) (y ∷ ys) a b same =
    let xy : range_precedes x y ≡ false = not_before x y xs ys b.0 (same x.start x.end) in
    let yx : range_precedes y x ≡ false = not_before y x ys xs a.0 (sym (same y.start y.end)) in
    let other : filter (has_range x.start x.end) (y ∷ ys) ≡ y
    ∷ filter (has_range x.start x.end) ys =
    rw (one_range x y xy yx) refl in
    let both : x ∷ filter (has_range x.start x.end) xs
    ≡ y ∷ filter (has_range x.start x.end) ys =
    sym (own_first x xs) ∙ same x.start x.end ∙ other in
    let head : x ≡ y = cc in
    let rest : SameRanges (x ∷ xs) (x ∷ ys) =
    λ start end. same start end
    ∙ ap (λ z. filter (has_range start end) (z ∷ ys)) (sym head) in
    let tail : xs ≡ ys = ascending-same xs ys a.1 b.1 (same-rest x xs ys rest) in
    cc

-- the sorted labels depend on the order of the labels of each range alone
pub sorted-same : (xs ys : List LabelModel) → SameRanges xs ys → sorted xs ≡ sorted ys
sorted-same xs ys same =
    ascending-same (sorted xs) (sorted ys) (sorted-ascends xs) (sorted-ascends ys)
    (λ start end. sorted-keeps start end xs ∙ same start end ∙ sym (sorted-keeps start end ys))

-- ---- the one list of labels in order

-- `range_precedes` is a strict weak order
before_order : IsStrictWeakOrder range_precedes
before_order = record { one_way = before_one_way; chain = before_chain }

-- an insertion permutes the inserted label and the others
insert_sorted-permutation : (x : LabelModel) (ys : List LabelModel)
    → IsPermutation (x ∷ ys) (insert_sorted x ys)
insert_sorted-permutation x [] = IsPermutation-refl (x ∷ [])
insert_sorted-permutation x (y ∷ ys) =
    cond_both (range_precedes y x) (y ∷ insert_sorted x ys) (x ∷ y ∷ ys)
    (IsPermutation (x ∷ y ∷ ys))
    (λ _. IsPermutation-trans (x ∷ y ∷ ys) (y ∷ x ∷ ys) (y ∷ insert_sorted x ys)
    (IsPermutation-insert (y ∷ ys) 1 x)
    (IsPermutation-cons y (x ∷ ys) (insert_sorted x ys) (insert_sorted-permutation x ys)))
    (λ _. IsPermutation-refl (x ∷ y ∷ ys))

-- sorted labels are a permutation of the labels
sorted-permutation : (xs : List LabelModel) → IsPermutation xs (sorted xs)
sorted-permutation [] = IsPermutation-refl []
sorted-permutation (x ∷ xs) =
    IsPermutation-trans (x ∷ xs) (x ∷ sorted xs) (sorted (x ∷ xs))
    (IsPermutation-cons x xs (sorted xs) (sorted-permutation xs))
    (insert_sorted-permutation x (sorted xs))

-- neither of two labels is before the other where they have one range
tie-range : (x y : LabelModel) → ties range_precedes x y ≡ has_range x.start x.end y
tie-range x y = grind (arith, nat_tests)

-- those that tie with a label are those of its range
ties-range : (x : LabelModel) → ties range_precedes x ≡ has_range x.start x.end
ties-range x = fun_ext (tie-range x)

-- a label of this range
abbrev of_range : ℕ → ℕ → LabelModel
of_range start end = record { style = Primary; start = start; end = end; message = [] }

-- a list that keeps the order of those that tie keeps that of each range
stable-ranges : (xs ys : List LabelModel) → IsStableBy range_precedes xs ys → SameRanges ys xs
stable-ranges xs ys stable start end =
    subst (λ p. filter p ys ≡ filter p xs) (ties-range (of_range start end))
    (stable (of_range start end))

-- sorted labels are in order, and no other list is
pub sorts_labels : (xs : List LabelModel) → SortedIsStableSort xs
sorts_labels xs = record {
  is = record {
    in_order = sorted_from_rises range_precedes (sorted xs) (sorted-ascends xs);
    permutation = sorted-permutation xs;
    stable =
        λ x. subst (λ p. filter p (sorted xs) ≡ filter p xs) (sym (ties-range x))
        (sorted-keeps x.start x.end xs);
  };
  only = λ ys sort. ascending-same ys (sorted xs)
      (rises-from_sorted range_precedes before_order ys sort.in_order)
      (sorted-ascends xs)
      (λ start end. stable-ranges xs ys sort.stable start end ∙ sym (sorted-keeps start end xs));
}
