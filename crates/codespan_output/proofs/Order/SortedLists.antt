-- For `sorted_is_stable_sort`: lists in order, and what a filter keeps of a list that was sorted.
use Rattle.codespan_core.proofs.Std.{◌≡◌, ℕ, zero, suc, ◌+◌, Bool, true, false, cond}
use Rattle.codespan_core.proofs.Std.{List, [], ◌∷◌, length, map, filter, ⊎_elim, refl, sym}
use Rattle.codespan_core.proofs.Std.{ap, ◌∙◌, arith, IsStrictWeakOrder, AllByRecursion}
use Rattle.codespan_core.proofs.Std.{sum_by, IsSortedBy, cases_Bool, cond_both, get_or-map}
use Rattle.codespan_core.proofs.Std.{length-map, recursion_from_All, sorted_far, sum_by-cons}
use Rattle.std.specs.List.{AllPairs}
use Rattle.codespan_output.proofs.Utf8.ListElements.{all-weaker, all-filter}

-- ---- lists in order

-- no later element is below an earlier one
abbrev pub Rises : {X : Type 0} → (X → X → Bool) → List X → Type 0
Rises lt [] = Unit {0}
Rises lt (x ∷ xs) = AllByRecursion (λ y. lt y x ≡ false) xs × Rises lt xs

-- each later element is above the earlier ones
abbrev pub Climbs : {X : Type 0} → (X → X → Bool) → List X → Type 0
Climbs lt [] = Unit {0}
Climbs lt (x ∷ xs) = AllByRecursion (λ y. lt x y ≡ true) xs × Climbs lt xs

-- a list rises where no element is below one before it
rises-from_pairs : {X : Type 0} (lt : X → X → Bool) (xs : List X)
    → AllPairs (λ x y. lt y x ≡ false) xs → Rises lt xs
rises-from_pairs lt [] h = tt
rises-from_pairs lt (x ∷ xs) h = (
  recursion_from_All (λ y. lt y x ≡ false) xs
      (λ k d within. h zero (suc k) d (omega arith) (omega arith)),
  rises-from_pairs lt xs (λ i j d l w. h (suc i) (suc j) d (omega arith) (omega arith)),
)

-- a sorted list rises
pub rises-from_sorted : {X : Type 0} (lt : X → X → Bool) → IsStrictWeakOrder lt
    → (xs : List X)
    → IsSortedBy lt xs → Rises lt xs
rises-from_sorted lt o xs h =
    rises-from_pairs lt xs (λ i j d l w. sorted_far lt o xs h i j d (omega arith) w)

-- a list that rises is sorted
pub sorted_from_rises : {X : Type 0} (lt : X → X → Bool) (xs : List X) → Rises lt xs
    → IsSortedBy lt xs
sorted_from_rises lt [] h k d z w = absurd (omega arith)
sorted_from_rises lt (x ∷ []) h k d z w = absurd (omega arith)
sorted_from_rises lt (x ∷ y ∷ ys) h zero d z w = h.0.0
sorted_from_rises lt (x ∷ y ∷ ys) h (suc k) d z w =
    let e : suc k + 1 ≡ suc (k + 1) = omega arith in
    rw e (sorted_from_rises lt (y ∷ ys) h.1 k d (omega arith) (omega arith))

-- what a filter keeps rises too
pub rises-filter : {X : Type 0} (lt : X → X → Bool) (p : X → Bool) (xs : List X)
    → Rises lt xs
    → Rises lt (filter p xs)
rises-filter lt p [] h = tt
rises-filter lt p (x ∷ xs) h =
    cond_both (p x) (x ∷ filter p xs) (filter p xs) (Rises lt)
    (λ _. (all-filter (λ y. lt y x ≡ false) p xs h.0, rises-filter lt p xs h.1))
    (λ _. rises-filter lt p xs h.1)

-- a list that climbs rises
pub climbs-rises : {X : Type 0} (lt : X → X → Bool) → IsStrictWeakOrder lt → (xs : List X)
    → Climbs lt xs → Rises lt xs
climbs-rises lt o [] h = tt
climbs-rises lt o (x ∷ xs) h = (
  all-weaker (λ y. lt x y ≡ true) (λ y. lt y x ≡ false) (λ y t. o.one_way x y t) xs h.0,
  climbs-rises lt o xs h.1,
)

-- the images of a list that is sorted by the images of its elements are sorted
pub sorted-map : {X Y : Type 0} (f : X → Y) (lt : Y → Y → Bool) (xs : List X)
    → IsSortedBy (λ x y. lt (f x) (f y)) xs → IsSortedBy lt (map f xs)
sorted-map f lt [] h k d z w = absurd (omega arith)
sorted-map {X} {Y} f lt (x ∷ xs) h k d z w =
    let n : length (map f (x ∷ xs)) ≡ length (x ∷ xs) = length-map (x ∷ xs) f in
    let a = get_or-map f (x ∷ xs) (k + 1) x d (omega (arith, n, w)) in
    let b = get_or-map f (x ∷ xs) k x d (omega (arith, n, w)) in
    (λ i. lt (a i) (b i)) ∙ h k x z (omega (arith, n, w))

-- ---- the same elements

-- each function has one sum over both lists
abbrev pub SameSums : {X : Type 0} → List X → List X → Type 0
SameSums {X} xs ys = (f : X → ℕ) → sum_by f xs ≡ sum_by f ys

-- the sum of a filter's list
sum_by-filter : {X : Type 0} (f : X → ℕ) (p : X → Bool) (xs : List X)
    → sum_by f (filter p xs) ≡ sum_by (λ x. cond (p x) (f x) 0) xs
sum_by-filter f p [] = refl
sum_by-filter f p (x ∷ xs) =
    ⊎_elim
    (λ t. rw t
    (omega (
      arith,
      sum_by-cons f x (filter p xs),
      sum_by-filter f p xs,
      rw t at (sum_by-cons (λ y. cond (p y) (f y) 0) x xs),
    )))
    (λ e. rw e
    (omega (arith, sum_by-filter f p xs, rw e at (sum_by-cons (λ y. cond (p y) (f y) 0) x xs))))
    (cases_Bool (p x))

-- a filter keeps the same elements of both
pub same_sums-filter : {X : Type 0} (p : X → Bool) (xs ys : List X) → SameSums xs ys
    → SameSums (filter p xs) (filter p ys)
same_sums-filter p xs ys h f =
    sum_by-filter f p xs ∙ h (λ x. cond (p x) (f x) 0) ∙ sym (sum_by-filter f p ys)

-- nothing is counted where nothing passes
no_sum : {X : Type 0} (p : X → Bool) (xs : List X) → AllByRecursion (λ x. p x ≡ false) xs
    → sum_by (λ x. cond (p x) 1 0) xs ≡ 0
no_sum p [] h = refl
no_sum p (x ∷ xs) h = let e = ap (λ b. cond {A = ℕ} b 1 0) h.0 in
    omega (arith, sum_by-cons (λ y. cond (p y) 1 0) x xs, no_sum p xs h.1, e)

-- no element is below itself
pub not_below_itself : {X : Type 0} (lt : X → X → Bool) → IsStrictWeakOrder lt → (x : X)
    → lt x x ≡ false
not_below_itself lt o x = ⊎_elim (λ t. o.one_way x x t) (λ f. f) (cases_Bool (lt x x))

-- the first of a list is not below the first of one that rises with the same elements
first-low : {X : Type 0} (lt : X → X → Bool) → IsStrictWeakOrder lt
    → (x y : X) (xs ys : List X)
    → AllByRecursion (λ z. lt z y ≡ false) ys → SameSums (x ∷ xs) (y ∷ ys)
    → lt x y ≡ true → ⊥
first-low lt o x y xs ys low same t =
    let none : sum_by (λ z. cond (lt z y) 1 0) (y ∷ ys) ≡ 0 =
    no_sum (λ z. lt z y) (y ∷ ys) (not_below_itself lt o y, low) in
    let some : sum_by (λ z. cond (lt z y) 1 0) (x ∷ xs)
    ≡ 1 + sum_by (λ z. cond (lt z y) 1 0) xs =
    sum_by-cons (λ z. cond (lt z y) 1 0) x xs ∙ rw t refl in
    omega (arith, none, some, same (λ z. cond (lt z y) 1 0))

-- two ascending lists with the same elements are equal where the order separates the elements
pub rises-unique : {X : Type 0} (lt : X → X → Bool) → IsStrictWeakOrder lt
    → (P : X → Type 0)
    → ((x y : X) → P x → P y → lt x y ≡ false → lt y x ≡ false → x ≡ y)
    → (xs ys : List X) → AllByRecursion P xs → AllByRecursion P ys → Rises lt xs
    → Rises lt ys
    → SameSums xs ys → xs ≡ ys
rises-unique lt o P tie [] [] p q a b same = refl
rises-unique lt o P tie [] (y ∷ ys) p q a b same =
    absurd (omega (arith, same (λ _. 1), sum_by-cons (λ _. 1) y ys))
rises-unique lt o P tie (x ∷ xs) [] p q a b same =
    absurd (omega (arith, same (λ _. 1), sum_by-cons (λ _. 1) x xs))
rises-unique {X} lt o P tie (x ∷ xs) (y ∷ ys) p q a b same =
    let xy : lt x y ≡ false =
    ⊎_elim (λ t. absurd (first-low lt o x y xs ys b.0 same t)) (λ f. f) (cases_Bool (lt x y)) in
    let yx : lt y x ≡ false =
    ⊎_elim (λ t. absurd (first-low lt o y x ys xs a.0 (λ f. sym (same f)) t)) (λ f. f)
    (cases_Bool (lt y x)) in
    let e : x ≡ y = tie x y p.0 q.0 xy yx in
    let rest : SameSums xs ys = λ (f : X → ℕ). let u : f x ≡ f y = ap f e in
    omega (arith, same f, sum_by-cons f x xs, sum_by-cons f y ys, u) in
    let l : xs ≡ ys = rises-unique lt o P tie xs ys p.1 q.1 a.1 b.1 rest in
    cc
