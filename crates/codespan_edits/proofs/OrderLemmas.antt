-- A list in order is determined by its members, for the clause `sorted` of `sorted_places` and for
-- the laws.
use Rattle.codespan_core.proofs.Std.{◌≡◌, ℕ, ◌+◌, Bool, true, false, List, []}
use Rattle.codespan_core.proofs.Std.{◌∷◌, if◌then◌else◌, refl, sym, ap, ◌∙◌}
use Rattle.codespan_core.proofs.Std.{arith, sum_by, AllByRecursion, IsStrictWeakOrder}
use Rattle.codespan_core.proofs.Std.{IsPermutation, nat_cmp, ordering_then, is_lt, nat_tests}
use Rattle.codespan_core.proofs.Std.{ranks_by, IsPermutation-refl, IsPermutation-trans}
use Rattle.codespan_core.proofs.Std.{IsPermutation-cons, sum_by-cons}
use Rattle.std.specs.Cmp.{IsTotalOrder, then_total, on_total, nat_cmp_total}
use Rattle.std.proofs.lemmas.List.Sorted.{IsPermutation-middle}
use Rattle.codespan_edits.specs.Edits.{TextEdit, ListedEdit, compare, is_before, insert_in_order}
use Rattle.codespan_edits.specs.Edits.{listed_from, in_order}
use Rattle.codespan_edits.specs.Private.Places.{replacement_at}

-- the comparison is a total order
pub compare_total : IsTotalOrder compare
compare_total =
    then_total (on_total (λ (x : ListedEdit). x.edit.start) nat_cmp_total)
    (then_total (on_total (λ (x : ListedEdit). x.edit.end) nat_cmp_total)
    (on_total (λ (x : ListedEdit). x.index) nat_cmp_total))

-- so `is_before` is an order
pub before_order : IsStrictWeakOrder is_before
before_order = ranks_by compare_total (λ x. x)

-- no edit is before itself
irreflexive : (x : ListedEdit) → is_before x x ≡ false
irreflexive x = by_test (is_before x x) refl where
  by_test : (b : Bool) → is_before x x ≡ b → is_before x x ≡ false
  by_test true t = before_order.one_way x x t
  by_test false t = t

-- no edit of the list is before x
abbrev pub NoneBefore : ListedEdit → List ListedEdit → Type 0
NoneBefore x = AllByRecursion (λ y. is_before y x ≡ false)

-- each edit has no later one before it
abbrev pub Ascends : List ListedEdit → Type 0
Ascends [] = Unit {0}
Ascends (x ∷ xs) = NoneBefore x xs × Ascends xs

-- what holds of each edit holds once one more of which it holds is put in order among them
all-insert : (P : ListedEdit → Type 0) (x : ListedEdit) (ys : List ListedEdit) → P x
    → AllByRecursion P ys → AllByRecursion P (insert_in_order x ys)
all-insert P x [] h all = (h, tt)
all-insert P x (y ∷ ys) h all = by_test (all-insert P x ys h all.1) (is_before y x) where
  by_test : AllByRecursion P (insert_in_order x ys) → (b : Bool)
      → AllByRecursion P (if b then y ∷ insert_in_order x ys else x ∷ (y ∷ ys))
  by_test rest true = (all.0, rest)
  by_test rest false = (h, all)

-- what holds of each edit holds once they are brought to their order
pub all-in_order : (P : ListedEdit → Type 0) (xs : List ListedEdit) → AllByRecursion P xs
    → AllByRecursion P (in_order xs)
all-in_order P [] all = tt
all-in_order P (x ∷ xs) all = all-insert P x (in_order xs) all.0 (all-in_order P xs all.1)

-- what is after x is after what x is after
none-chain : (x y : ListedEdit) (zs : List ListedEdit) → is_before y x ≡ false → NoneBefore y
    zs
    → NoneBefore x zs
none-chain x y [] h none = tt
none-chain x y (z ∷ zs) h none =
    (before_order.chain z y x none.0 h, none-chain x y zs h none.1)

-- edits in order, with one more, are in order
ascends-insert : (x : ListedEdit) (ys : List ListedEdit) → Ascends ys
    → Ascends (insert_in_order x ys)
ascends-insert x [] up = (tt, tt)
ascends-insert x (y ∷ ys) up = by_test (ascends-insert x ys up.1) (is_before y x) refl where
  by_test : Ascends (insert_in_order x ys) → (b : Bool) → is_before y x ≡ b
      → Ascends (if b then y ∷ insert_in_order x ys else x ∷ (y ∷ ys))
  by_test rest true t = (
    all-insert (λ z. is_before z y ≡ false) x ys
        (before_order.one_way y x t) up.0,
    rest,
  )
  by_test rest false t = ((t, none-chain x y ys t up.0), up)

-- edits that were brought to their order are in order
pub ascends-in_order : (xs : List ListedEdit) → Ascends (in_order xs)
ascends-in_order [] = tt
ascends-in_order (x ∷ xs) = ascends-insert x (in_order xs) (ascends-in_order xs)

-- edits with one more that is put in order among them
insert-permutation : (x : ListedEdit) (ys : List ListedEdit)
    → IsPermutation (x ∷ ys) (insert_in_order x ys)
insert-permutation x [] = IsPermutation-refl (x ∷ [])
insert-permutation x (y ∷ ys) = by_test (insert-permutation x ys) (is_before y x) where
  by_test : IsPermutation (x ∷ ys) (insert_in_order x ys) → (b : Bool)
      → IsPermutation (x ∷ (y ∷ ys))
      (if b then y ∷ insert_in_order x ys else x ∷ (y ∷ ys))
  by_test rest true =
      IsPermutation-trans (x ∷ (y ∷ ys)) (y ∷ (x ∷ ys)) (y ∷ insert_in_order x ys)
      (IsPermutation-middle (x ∷ []) y ys)
      (IsPermutation-cons y (x ∷ ys) (insert_in_order x ys) rest)
  by_test rest false = IsPermutation-refl (x ∷ (y ∷ ys))

-- edits that were brought to their order are the same ones
pub in_order-permutation : (xs : List ListedEdit) → IsPermutation xs (in_order xs)
in_order-permutation [] = IsPermutation-refl []
in_order-permutation (x ∷ xs) =
    IsPermutation-trans (x ∷ xs) (x ∷ in_order xs) (insert_in_order x (in_order xs))
    (IsPermutation-cons x xs (in_order xs) (in_order-permutation xs))
    (insert-permutation x (in_order xs))

-- two lists have the same edits, each as often: each sum over them is the same
abbrev pub SameSums : List ListedEdit → List ListedEdit → Type 0
SameSums xs ys = (f : ListedEdit → ℕ) → sum_by f xs ≡ sum_by f ys

-- 1 for an edit that is before y
abbrev count_before : ListedEdit → ListedEdit → ℕ
count_before y x = if is_before x y then 1 else 0

-- no edit is counted where none is before
none-counted : (y : ListedEdit) (ys : List ListedEdit) → NoneBefore y ys
    → sum_by (count_before y) ys ≡ 0
none-counted y [] none = refl
none-counted y (z ∷ zs) none =
    sum_by-cons (count_before y) z zs ∙ rw (none.0, none-counted y zs none.1) refl

-- the first of some edits is not before the first of the same edits in order
first-not_before : (x y : ListedEdit) (xs ys : List ListedEdit) → SameSums (x ∷ xs) (y ∷ ys)
    → NoneBefore y ys → is_before x y ≡ false
first-not_before x y xs ys sums none = by_test (is_before x y) refl where
  counted : count_before y x + sum_by (count_before y) xs ≡ 0
  counted =
      sym (sum_by-cons (count_before y) x xs)
      ∙ (sums (count_before y) ∙ none-counted y (y ∷ ys) (irreflexive y, none))

  by_test : (b : Bool) → is_before x y ≡ b → b ≡ false
  by_test true t =
      absurd (omega (
        arith,
        ap (λ (b : Bool). (if b then 1 else 0) + sum_by (count_before y) xs) (sym t)
            ∙ counted,
      ))
  by_test false t = refl

-- each replacement is that of the list's edit with its index
abbrev pub Sourced : List TextEdit → List ListedEdit → Type 0
Sourced edits = AllByRecursion (λ x. x.edit.replacement ≡ replacement_at edits x.index)

-- two comparisons that are both not less are between equal numbers
tied : (a b c d i j : ℕ)
    → is_lt (ordering_then (nat_cmp a b) (ordering_then (nat_cmp c d) (nat_cmp i j))) ≡ false
    → is_lt (ordering_then (nat_cmp b a) (ordering_then (nat_cmp d c) (nat_cmp j i))) ≡ false
    → (a ≡ b) × (c ≡ d) × (i ≡ j)
tied a b c d i j h k = (
  grind (arith, nat_tests),
  grind (arith, nat_tests),
  grind
      (arith, nat_tests),
)

-- edits with the same fields are the same
same_fields : (a b c d i j : ℕ) (r s : List ℕ) → a ≡ b → c ≡ d → i ≡ j → r ≡ s
    → ◌≡◌ {A = ListedEdit}
    (record { index = i; edit = record { start = a; end = c; replacement = r } })
    (record { index = j; edit = record { start = b; end = d; replacement = s } })
same_fields a b c d i j r s p q h k = rw (p, q, h, k) refl

-- two edits of a list of which neither is before the other are the same
same_edit : (edits : List TextEdit) (x y : ListedEdit) → is_before x y ≡ false
    → is_before y x ≡ false → x.edit.replacement ≡ replacement_at edits x.index
    → y.edit.replacement ≡ replacement_at edits y.index → x ≡ y
same_edit edits x y h k rx ry =
    let t : (x.edit.start ≡ y.edit.start) × (x.edit.end ≡ y.edit.end) ×
    (x.index ≡ y.index) =
    tied x.edit.start y.edit.start x.edit.end y.edit.end x.index y.index h k in
    same_fields x.edit.start y.edit.start x.edit.end y.edit.end x.index y.index x.edit.replacement
    y.edit.replacement t.0 t.1 t.2 (rx ∙ (ap (replacement_at edits) t.2 ∙ sym ry))

-- two lists in order with the same edits of one list are the same
pub same_order : (edits : List TextEdit) (xs ys : List ListedEdit) → Ascends xs → Ascends ys
    → Sourced edits xs → Sourced edits ys → SameSums xs ys → xs ≡ ys
same_order edits [] [] up_x up_y of_x of_y sums = refl
same_order edits [] (y ∷ ys) up_x up_y of_x of_y sums =
    absurd (omega (arith, sums (λ _. 1), sum_by-cons (λ _. 1) y ys))
same_order edits (x ∷ xs) [] up_x up_y of_x of_y sums =
    absurd (omega (arith, sums (λ _. 1), sum_by-cons (λ _. 1) x xs))
same_order edits (x ∷ xs) (y ∷ ys) up_x up_y of_x of_y sums =
    let h : is_before x y ≡ false = first-not_before x y xs ys sums up_y.0 in
    let k : is_before y x ≡ false = first-not_before y x ys xs (λ f. sym (sums f)) up_x.0 in
    let e : x ≡ y = same_edit edits x y h k of_x.0 of_y.0 in
    let rest : xs ≡ ys =
    same_order edits xs ys up_x.1 up_y.1 of_x.1 of_y.1
    (λ f. omega (arith, sums f, sum_by-cons f x xs, sum_by-cons f y ys, ap f e)) in
    rw (e, rest) refl

-- what holds of edits holds of them with their indices
pub all-listed : (P : TextEdit → Type 0) (i : ℕ) (es : List TextEdit) → AllByRecursion P es
    → AllByRecursion (λ x. P x.edit) (listed_from i es)
all-listed P i [] all = tt
all-listed P i (e ∷ es) all = (all.0, all-listed P (i + 1) es all.1)
