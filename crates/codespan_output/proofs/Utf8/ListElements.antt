-- For `lanes_join_corners`, `reordering_changes_nothing` and `outputs_are_utf8`: what holds of each
-- element of a list.
use Rattle.codespan_core.proofs.Std.{◌≡◌, ℕ, zero, suc, Bool, true, false, ◌&&◌}
use Rattle.codespan_core.proofs.Std.{◌||◌, cond, List, [], ◌∷◌, ◌++◌, take, drop, map}
use Rattle.codespan_core.proofs.Std.{filter, refl, ap, AllByRecursion, list_any, cond_both}

-- ---- what holds of each element

-- what follows holds of each too
pub all-weaker : {X : Type 0} (P Q : X → Type 0) → ((x : X) → P x → Q x) → (xs : List X)
    → AllByRecursion P xs → AllByRecursion Q xs
all-weaker P Q f [] h = tt
all-weaker P Q f (x ∷ xs) h = (f x h.0, all-weaker P Q f xs h.1)

-- it holds of what a filter keeps
pub all-filter : {X : Type 0} (P : X → Type 0) (p : X → Bool) (xs : List X)
    → AllByRecursion P xs
    → AllByRecursion P (filter p xs)
all-filter P p [] h = tt
all-filter P p (x ∷ xs) h =
    cond_both (p x) (x ∷ filter p xs) (filter p xs) (AllByRecursion P)
    (λ _. (h.0, all-filter P p xs h.1)) (λ _. all-filter P p xs h.1)

-- it holds of the elements of two lists
pub all-append : {X : Type 0} (P : X → Type 0) (xs ys : List X) → AllByRecursion P xs
    → AllByRecursion P ys → AllByRecursion P (xs ++ ys)
all-append P [] ys h k = k
all-append P (x ∷ xs) ys h k = (h.0, all-append P xs ys h.1 k)

-- two facts hold of each
pub all-both : {X : Type 0} (P Q : X → Type 0) (xs : List X) → AllByRecursion P xs
    → AllByRecursion Q xs → AllByRecursion (λ x. P x × Q x) xs
all-both P Q [] h k = tt
all-both P Q (x ∷ xs) h k = ((h.0, k.0), all-both P Q xs h.1 k.1)

-- it holds of those from one on
all-drop : {X : Type 0} (P : X → Type 0) (n : ℕ) (xs : List X) → AllByRecursion P xs
    → AllByRecursion P (drop n xs)
all-drop P zero xs h = h
all-drop P (suc n) [] h = tt
all-drop P (suc n) (x ∷ xs) h = all-drop P n xs h.1

-- and of the first of them
all-take : {X : Type 0} (P : X → Type 0) (n : ℕ) (xs : List X) → AllByRecursion P xs
    → AllByRecursion P (take n xs)
all-take P zero xs h = tt
all-take P (suc n) [] h = tt
all-take P (suc n) (x ∷ xs) h = (h.0, all-take P n xs h.1)

-- and of a slice of them
pub all-slice : {X : Type 0} (P : X → Type 0) (at n : ℕ) (xs : List X) → AllByRecursion P xs
    → AllByRecursion P (take n (drop at xs))
all-slice P at n xs h = all-take P n (drop at xs) (all-drop P at xs h)

-- what holds of the images of elements holds of the elements by their images
pub all-mapped : {X Y : Type 0} (f : X → Y) (P : Y → Type 0) (xs : List X)
    → AllByRecursion P (map f xs) → AllByRecursion (λ x. P (f x)) xs
all-mapped f P [] h = tt
all-mapped f P (x ∷ xs) h = (h.0, all-mapped f P xs h.1)

-- what a filter keeps passes its test
pub all-pass : {X : Type 0} (p : X → Bool) (xs : List X)
    → AllByRecursion (λ x. p x ≡ true) (filter p xs)
all-pass p [] = tt
all-pass p (x ∷ xs) =
    cond_both (p x) (x ∷ filter p xs) (filter p xs) (AllByRecursion (λ y. p y ≡ true))
    (λ t. (t, all-pass p xs)) (λ _. all-pass p xs)

-- a filter keeps everything where everything passes
pub filter-whole : {X : Type 0} (p : X → Bool) (xs : List X)
    → AllByRecursion (λ x. p x ≡ true) xs
    → filter p xs ≡ xs
filter-whole p [] h = refl
filter-whole p (x ∷ xs) h = let r = filter-whole p xs h.1 in rw (h.0, r) refl

-- a filter keeps nothing where nothing passes
pub filter-nothing : {X : Type 0} (p : X → Bool) (xs : List X)
    → AllByRecursion (λ x. p x ≡ false) xs → filter p xs ≡ []
filter-nothing p [] h = refl
filter-nothing p (x ∷ xs) h = rw h.0 (filter-nothing p xs h.1)

-- nothing passes a test that each fails
pub any-nothing : {X : Type 0} (p : X → Bool) (xs : List X)
    → AllByRecursion (λ x. p x ≡ false) xs
    → list_any p xs ≡ false
any-nothing p [] h = refl
any-nothing p (x ∷ xs) h = rw h.0 (any-nothing p xs h.1)

-- two filters are one
pub filter-filter : {X : Type 0} (p q : X → Bool) (xs : List X)
    → filter p (filter q xs) ≡ filter (λ x. q x && p x) xs
filter-filter p q [] = refl
filter-filter p q (x ∷ xs) = by_test (q x) (filter-filter p q xs)
  where
    by_test : (b : Bool) → filter p (filter q xs) ≡ filter (λ y. q y && p y) xs
        → filter p (cond b (x ∷ filter q xs) (filter q xs)) ≡ cond (b && p x)
        (x ∷ filter (λ y. q y && p y) xs) (filter (λ y. q y && p y) xs)
    by_test true rest = ap (λ ys. cond (p x) (x ∷ ys) ys) rest
    by_test false rest = rest

-- a test of what a filter keeps
pub any-filtered : {X : Type 0} (p q : X → Bool) (xs : List X)
    → list_any p (filter q xs) ≡ list_any (λ x. q x && p x) xs
any-filtered p q [] = refl
any-filtered p q (x ∷ xs) = by_test (q x) (any-filtered p q xs)
  where
    by_test : (b : Bool) → list_any p (filter q xs) ≡ list_any (λ y. q y && p y) xs
        → list_any p
        (cond b (x ∷ filter q xs) (filter q xs))
        ≡ ((b && p x) || list_any (λ y. q y && p y) xs)
    by_test true rest = ap (λ b. p x || b) rest
    by_test false rest = rest

-- ---- maps

-- two maps in one
pub map-map : {X Y Z : Type 0} (g : Y → Z) (f : X → Y) (xs : List X)
    → map g (map f xs) ≡ map (λ x. g (f x)) xs
map-map g f [] = refl
map-map g f (x ∷ xs) = ap (λ ys. g (f x) ∷ ys) (map-map g f xs)
