-- For `sorted_is_stable_sort`: what a filter keeps of a list that was sorted.
use Rattle.codespan_core.proofs.Std.{◌≡◌, Bool, true, false, cond, List, [], ◌∷◌}
use Rattle.codespan_core.proofs.Std.{◌++◌, filter, reverse, ◌⊎◌, inl, inr, refl, sym, ap}
use Rattle.codespan_core.proofs.Std.{subst, ◌∙◌, arith, true≢false, IsStrictWeakOrder}
use Rattle.codespan_core.proofs.Std.{AllByRecursion, sum_by, IsSortedBy, IsPermutation, cond_both}
use Rattle.codespan_core.proofs.Std.{append-nil, reverse-append, filter-append, recursion_from_All}
use Rattle.codespan_core.proofs.Std.{All-from_recursion, sum_by-IsPermutation, All-permutation}
use Rattle.codespan_core.proofs.Std.{sum_by-append, sum_by-cons}
use Rattle.codespan_output.proofs.Utf8.ListElements.{all-weaker, all-filter, all-append, all-both}
use Rattle.codespan_output.proofs.Utf8.ListElements.{all-pass}
use Rattle.codespan_output.proofs.Order.SortedLists.{Climbs, rises-from_sorted, rises-filter}
use Rattle.codespan_output.proofs.Order.SortedLists.{climbs-rises, SameSums, same_sums-filter}
use Rattle.codespan_output.proofs.Order.SortedLists.{rises-unique}

-- ---- what a filter keeps of a sorted list

-- the element is in the list
abbrev IsIn : {X : Type 0} → X → List X → Type 0
IsIn x [] = ⊥
IsIn x (y ∷ ys) = (x ≡ y) ⊎ IsIn x ys

-- what holds of each element holds of one that is in the list
all-in : {X : Type 0} (P : X → Type 0) (y : X) (xs : List X) → AllByRecursion P xs → IsIn y xs
    → P y
all-in P y [] h i = absurd i
all-in P y (x ∷ xs) h (inl e) = subst P (sym e) h.0
all-in P y (x ∷ xs) h (inr i) = all-in P y xs h.1 i

-- elements of a list that climbs are one where neither is below the other
climbs-tie : {X : Type 0} (lt : X → X → Bool) (zs : List X) → Climbs lt zs → (x y : X)
    → IsIn x zs
    → IsIn y zs
    → lt x y ≡ false → lt y x ≡ false → x ≡ y
climbs-tie lt [] c x y i j h k = absurd i
climbs-tie lt (z ∷ zs) c x y (inl e) (inl f) h k = e ∙ sym f
climbs-tie lt (z ∷ zs) c x y (inl e) (inr j) h k =
    absurd
    (true≢false (sym (ap (λ w. lt w y) e ∙ all-in (λ w. lt z w ≡ true) y zs c.0 j) ∙ h))
climbs-tie lt (z ∷ zs) c x y (inr i) (inl f) h k =
    absurd
    (true≢false (sym (ap (λ w. lt w x) f ∙ all-in (λ w. lt z w ≡ true) x zs c.0 i) ∙ k))
climbs-tie lt (z ∷ zs) c x y (inr i) (inr j) h k = climbs-tie lt zs c.1 x y i j h k

-- each is in the list that has an element more
in-more : {X : Type 0} (z : X) (zs ys : List X) → AllByRecursion (λ x. IsIn x zs) ys
    → AllByRecursion (λ x. IsIn x (z ∷ zs)) ys
in-more z zs ys h = all-weaker (λ x. IsIn x zs) (λ x. IsIn x (z ∷ zs)) (λ x i. inr i) ys h

-- each element is in its list
all-in_itself : {X : Type 0} (xs : List X) → AllByRecursion (λ x. IsIn x xs) xs
all-in_itself [] = tt
all-in_itself (x ∷ xs) = (inl refl, in-more x xs xs (all-in_itself xs))

-- what passes is in the filter's list
in-filter : {X : Type 0} (q : X → Bool) (x : X) (xs : List X) → q x ≡ true → IsIn x xs
    → IsIn x (filter q xs)
in-filter q x [] t i = i
in-filter q x (y ∷ ys) t (inl e) =
    cond_both (q y) (y ∷ filter q ys) (filter q ys) (IsIn x) (λ _. inl e)
    (λ f. absurd (true≢false (sym t ∙ ap q e ∙ f)))
in-filter q x (y ∷ ys) t (inr i) =
    cond_both (q y) (y ∷ filter q ys) (filter q ys) (IsIn x) (λ _. inr (in-filter q x ys t i))
    (λ _. in-filter q x ys t i)

-- a filter keeps of a sorted list what climbs with the same elements
filter-sorted : {X : Type 0} (lt : X → X → Bool) → IsStrictWeakOrder lt
    → (given sorted : List X)
    → IsPermutation given sorted → IsSortedBy lt sorted
    → (q : X → Bool) (zs : List X) → Climbs lt zs → SameSums (filter q given) zs
    → ((x : X) → IsIn x (filter q given) → IsIn x zs)
    → filter q sorted ≡ zs
filter-sorted {X} lt o given sorted perm up q zs climbs sums has =
    let P : (x : X) → Type 0 = λ x. q x ≡ true → IsIn x zs in
    let each : AllByRecursion P given =
    all-weaker (λ x. IsIn x given) P (λ x i t. has x (in-filter q x given t i)) given
    (all-in_itself given) in
    let whole : AllByRecursion P sorted = recursion_from_All P sorted
    (All-permutation P given sorted perm (All-from_recursion P given each)) in
    let kept : AllByRecursion (λ x. IsIn x zs) (filter q sorted) =
    all-weaker (λ x. (q x ≡ true) × P x) (λ x. IsIn x zs) (λ x h. h.1 h.0) (filter q sorted)
    (all-both (λ x. q x ≡ true) P (filter q sorted) (all-pass q sorted)
    (all-filter P q sorted whole)) in
    rises-unique lt o (λ x. IsIn x zs) (λ x y i j. climbs-tie lt zs climbs x y i j)
    (filter q sorted) zs
    kept (all-in_itself zs) (rises-filter lt q sorted (rises-from_sorted lt o sorted up))
    (climbs-rises lt o zs climbs)
    (λ f. same_sums-filter q sorted given (λ g. sum_by-IsPermutation g given sorted perm) f
    ∙ sums f)

-- ---- a list from its end

-- the first goes last
pub reverse-cons : {X : Type 0} (x : X) (xs : List X)
    → reverse (x ∷ xs) ≡ reverse xs ++ x ∷ []
reverse-cons x xs = reverse-append (x ∷ []) xs

-- what a filter keeps of a list from its end
pub filter-reverse : {X : Type 0} (q : X → Bool) (xs : List X)
    → filter q (reverse xs) ≡ reverse (filter q xs)
filter-reverse q [] = refl
filter-reverse {X} q (x ∷ xs) =
    ap (filter q) (reverse-cons x xs) ∙ filter-append q (reverse xs) (x ∷ [])
    ∙ ap (λ ys. ys ++ filter q (x ∷ [])) (filter-reverse q xs) ∙ by_test (q x)
  where
    by_test : (b : Bool)
        → reverse (filter q xs) ++ cond b (x ∷ []) [] ≡ reverse
        (cond b (x ∷ filter q xs) (filter q xs))
    by_test true = sym (reverse-cons x (filter q xs))
    by_test false = append-nil (reverse (filter q xs))

-- each later element is below the earlier ones
abbrev pub Falls : {X : Type 0} → (X → X → Bool) → List X → Type 0
Falls lt [] = Unit {0}
Falls lt (x ∷ xs) = AllByRecursion (λ y. lt y x ≡ true) xs × Falls lt xs

-- what holds of each element holds from the end too
pub all-reverse : {X : Type 0} (P : X → Type 0) (xs : List X) → AllByRecursion P xs
    → AllByRecursion P (reverse xs)
all-reverse P [] h = tt
all-reverse P (x ∷ xs) h =
    subst (AllByRecursion P) (sym (reverse-cons x xs))
    (all-append P (reverse xs) (x ∷ []) (all-reverse P xs h.1) (h.0, tt))

-- a list that climbs, and an element above all of it
climbs-append : {X : Type 0} (lt : X → X → Bool) (x : X) (ys : List X) → Climbs lt ys
    → AllByRecursion (λ y. lt y x ≡ true) ys → Climbs lt (ys ++ x ∷ [])
climbs-append lt x [] c h = (tt, tt)
climbs-append lt x (y ∷ ys) c h =
    (all-append (λ z. lt y z ≡ true) ys (x ∷ []) c.0 (h.0, tt), climbs-append lt x ys c.1 h.1)

-- a list that falls climbs from its end
climbs-reverse : {X : Type 0} (lt : X → X → Bool) (xs : List X) → Falls lt xs
    → Climbs lt (reverse xs)
climbs-reverse lt [] h = tt
climbs-reverse lt (x ∷ xs) h =
    subst (Climbs lt) (sym (reverse-cons x xs))
    (climbs-append lt x (reverse xs) (climbs-reverse lt xs h.1)
    (all-reverse (λ y. lt y x ≡ true) xs h.0))

-- sums are the same from the end
same_sums-reverse : {X : Type 0} (xs : List X) → SameSums xs (reverse xs)
same_sums-reverse [] f = refl
same_sums-reverse (x ∷ xs) f =
    let back = ap (sum_by f) (reverse-cons x xs) in
    let last = sum_by-append f (reverse xs) (x ∷ []) in
    let one = sum_by-cons f x [] in
    let rest = same_sums-reverse xs f in
    let first = sum_by-cons f x xs in
    omega (arith, back, last, one, rest, first)

-- an element is in the list from its end
in-reverse : {X : Type 0} (x : X) (xs : List X) → IsIn x xs → IsIn x (reverse xs)
in-reverse x xs i = all-in (λ y. IsIn y (reverse xs)) x xs (each xs) i
  where
    first : {X : Type 0} (z : X) (ys : List X) → IsIn z (ys ++ z ∷ [])
    first z [] = inl refl
    first z (y ∷ ys) = inr (first z ys)

    front : {X : Type 0} (z y : X) (ys : List X) → IsIn z ys → IsIn z (ys ++ y ∷ [])
    front z y [] i = absurd i
    front z y (w ∷ ys) (inl e) = inl e
    front z y (w ∷ ys) (inr i) = inr (front z y ys i)

    each : {X : Type 0} (ys : List X) → AllByRecursion (λ y. IsIn y (reverse ys)) ys
    each [] = tt
    each (y ∷ ys) =
        subst (λ zs. AllByRecursion (λ z. IsIn z zs) (y ∷ ys)) (sym (reverse-cons y ys)) (
          first y (reverse ys),
          all-weaker (λ z. IsIn z (reverse ys))
              (λ z. IsIn z (reverse ys ++ y ∷ [])) (λ z i. front z y (reverse ys) i) ys
              (each ys),
        )

-- a filter keeps of a sorted list, from its end, what it keeps of the list that was sorted, where
-- that falls
pub filter-sorted_falls : {X : Type 0} (lt : X → X → Bool) → IsStrictWeakOrder lt
    → (given sorted : List X) → IsPermutation given sorted → IsSortedBy lt sorted
    → (q : X → Bool) → Falls lt (filter q given)
    → filter q sorted ≡ reverse (filter q given)
filter-sorted_falls lt o given sorted perm up q falls =
    filter-sorted lt o given sorted perm up q (reverse (filter q given))
    (climbs-reverse lt (filter q given) falls)
    (same_sums-reverse (filter q given)) (λ x i. in-reverse x (filter q given) i)

-- a filter keeps of a sorted list what it keeps of the list that was sorted, where that climbs
pub filter-sorted_climbs : {X : Type 0} (lt : X → X → Bool) → IsStrictWeakOrder lt
    → (given sorted : List X) → IsPermutation given sorted → IsSortedBy lt sorted
    → (q : X → Bool) → Climbs lt (filter q given) → filter q sorted ≡ filter q given
filter-sorted_climbs lt o given sorted perm up q climbs =
    filter-sorted lt o given sorted perm up q (filter q given) climbs (λ f. refl) (λ x i. i)
