-- For `padding_fits`: the greatest of some numbers.
use Rattle.codespan_core.proofs.Std.{◌≡◌, ℕ, ◌≤◌, max, List, [], ◌∷◌, ◌++◌}
use Rattle.codespan_core.proofs.Std.{refl, ap, ◌∙◌, arith, fold, AllByRecursion}

-- ---- the greatest of several lists

-- of one list after another
pub greatest-append : (a : ℕ) (xs ys : List ℕ)
    → fold max a (xs ++ ys) ≡ fold max (fold max a xs) ys
greatest-append a [] ys = refl
greatest-append a (x ∷ xs) ys = greatest-append (max a x) xs ys

-- with a number that comes before them
pub greatest-from : (a b : ℕ) (xs : List ℕ) → fold max (max a b) xs ≡ max (fold max a xs) b
greatest-from a b [] = refl
greatest-from a b (x ∷ xs) = let e : max (max a b) x ≡ max (max a x) b = omega arith in
    ap (λ n. fold max n xs) e ∙ greatest-from (max a x) b xs

-- from any number on
pub greatest-any : (a : ℕ) (xs : List ℕ) → fold max a xs ≡ max (fold max 0 xs) a
greatest-any a xs = let e : a ≡ max 0 a = omega arith in
    ap (λ n. fold max n xs) e ∙ greatest-from 0 a xs

-- ---- bounds

-- the number that it begins with is not above it
pub greatest-low : (a : ℕ) (xs : List ℕ) → a ≤ fold max a xs
greatest-low a [] = omega arith
greatest-low a (x ∷ xs) = omega (arith, greatest-low (max a x) xs)

-- it is not above a bound of them
pub greatest-least : (m a : ℕ) (xs : List ℕ) → a ≤ m → AllByRecursion (λ n. n ≤ m) xs
    → fold max a xs ≤ m
greatest-least m a [] low h = low
greatest-least m a (x ∷ xs) low h = let k : x ≤ m = h.0 in
    greatest-least m (max a x) xs (omega arith) h.1

-- two lists have the same greatest number, where each number of one is not above that of the other
pub greatest-same : (xs ys : List ℕ) → AllByRecursion (λ n. n ≤ fold max 0 ys) xs
    → AllByRecursion (λ n. n ≤ fold max 0 xs) ys → fold max 0 xs ≡ fold max 0 ys
greatest-same xs ys h k =
    omega (
      arith,
      greatest-least (fold max 0 ys) 0 xs (omega arith) h,
      greatest-least (fold max 0 xs) 0 ys (omega arith) k,
    )
