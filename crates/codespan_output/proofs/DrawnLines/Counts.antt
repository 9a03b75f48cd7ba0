-- For `source_rows_are_few`: counts of elements that pass a test.
use Rattle.codespan_core.proofs.Std.{◌≡◌, ℕ, ◌+◌, ◌≤◌, Bool, true, false}
use Rattle.codespan_core.proofs.Std.{cond, ◌||◌, List, [], ◌∷◌, ◌++◌, map, refl, ap}
use Rattle.codespan_core.proofs.Std.{arith, count_by, sum_by-cons, sum_by-append}
use Rattle.std.proofs.lemmas.List.Sums.{sum_by-le-sum_by}

-- ---- counts

pub count-cons : {X : Type 0} (p : X → Bool) (x : X) (xs : List X)
    → count_by p (x ∷ xs) ≡ cond (p x) 1 0 + count_by p xs
count-cons p x xs = sum_by-cons (λ x. cond (p x) 1 0) x xs

pub count-append : {X : Type 0} (p : X → Bool) (xs ys : List X)
    → count_by p (xs ++ ys) ≡ count_by p xs + count_by p ys
count-append p xs ys = sum_by-append (λ x. cond (p x) 1 0) xs ys

pub one-le : (b d : Bool) → (b ≡ true → d ≡ true) → cond b 1 0 ≤ cond d 1 0
one-le true d h = let e : d ≡ true = h refl in rw e (omega arith)
one-le false d h = omega arith

-- what implies more is counted more often
pub count-le : {X : Type 0} (p q : X → Bool) (xs : List X)
    → ((x : X) → p x ≡ true → q x ≡ true)
    → count_by p xs ≤ count_by q xs
count-le p q xs h = sum_by-le-sum_by (λ x. cond (p x) 1 0) (λ x. cond (q x) 1 0) xs
    (λ x. one-le (p x) (q x) (h x))

one-or : (b d : Bool) → cond (b || d) 1 0 ≤ cond b 1 0 + cond d 1 0
one-or true d = omega arith
one-or false true = omega arith
one-or false false = omega arith

pub count-or : {X : Type 0} (p q : X → Bool) (xs : List X)
    → count_by (λ x. p x || q x) xs ≤ count_by p xs + count_by q xs
count-or p q [] = omega arith
count-or p q (x ∷ xs) =
    omega (
      arith,
      count-or p q xs,
      one-or (p x) (q x),
      count-cons (λ x. p x || q x) x xs,
      count-cons p x xs,
      count-cons q x xs,
    )

pub count-none : {X : Type 0} (p : X → Bool) (xs : List X) → ((x : X) → p x ≡ false)
    → count_by p xs ≡ 0
count-none p [] h = refl
count-none p (x ∷ xs) h = let e = ap {B = ℕ} (λ b. cond b 1 0) (h x) in
    omega (arith, count-cons p x xs, count-none p xs h, e)

pub count-map-none : {X Y : Type 0} (p : Y → Bool) (f : X → Y) (xs : List X)
    → ((x : X) → p (f x) ≡ false) → count_by p (map f xs) ≡ 0
count-map-none p f [] h = refl
count-map-none p f (x ∷ xs) h =
    let e = ap {B = ℕ} (λ b. cond b 1 0) (h x) in
    omega (arith, count-cons p (f x) (map f xs), count-map-none p f xs h, e)
