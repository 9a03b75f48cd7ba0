-- The elements of a list that are kept: their numbers pass a test. For the clause `permutation` of
-- `follow_chains`.
use Rattle.codespan_core.proofs.Std.{common_steps, ◌≡◌, ℕ, zero, suc, ◌<◌, ◌≤◌}
use Rattle.codespan_core.proofs.Std.{Bool, true, false, cond, List, [], ◌∷◌, ◌++◌, length}
use Rattle.codespan_core.proofs.Std.{set, get_or, refl, subst, arith, IsPermutation, append_assoc}
use Rattle.codespan_core.proofs.Std.{length-append, nil_from_length, IsPermutation-refl}
use Rattle.codespan_core.proofs.Std.{IsPermutation-trans, IsPermutation-sym, IsPermutation-cons}
use Rattle.codespan_core.proofs.Std.{◌+◌}
use Rattle.std.proofs.lemmas.List.Sorted.{IsPermutation-middle, IsPermutation-push_more}
use Rattle.std.proofs.lemmas.List.Sorted.{length_permutation}

module _ {X : Type 0} (p : ℕ → Bool) where
  -- the elements at the indices of the numbers that pass
  abbrev pub kept : List ℕ → List X → List X
  kept [] xs = []
  kept (n ∷ ns) [] = []
  kept (n ∷ ns) (x ∷ xs) = cond (p n) (x ∷ kept ns xs) (kept ns xs)

  -- one more is kept behind an element that may be kept
  kept-later : (b : Bool) (x y : X) (before after : List X) → IsPermutation (y ∷ before) after
      → IsPermutation (y ∷ cond b (x ∷ before) before) (cond b (x ∷ after) after)
  kept-later b x y before after h = grind (
    arith,
    common_steps,
    IsPermutation-trans,
    IsPermutation-middle (y ∷ []) x before,
    IsPermutation-cons,
  )

  -- a number that passes takes the index of one that does not: one more is kept
  pub kept-set : (ns : List ℕ) (xs : List X) (i m : ℕ) (y : X) → i < length ns
      → i < length xs
      → p (get_or ns i 0) ≡ false → p m ≡ true → y ≡ get_or xs i y
      → IsPermutation (y ∷ kept ns xs) (kept (set ns i m) xs)
  kept-set [] xs i m y h k out passes is = absurd (omega arith)
  kept-set (n ∷ ns) [] i m y h k out passes is = absurd (omega arith)
  kept-set (n ∷ ns) (x ∷ xs) zero m y h k out passes is = grind
      (arith, common_steps, IsPermutation-refl)
  kept-set (n ∷ ns) (x ∷ xs) (suc i) m y h k out passes is = grind
      (arith, common_steps, kept-later, kept-set ns xs i m y)

  -- no more are kept than there are
  pub length-kept-le : (ns : List ℕ) (xs : List X) → length (kept ns xs) ≤ length xs
  length-kept-le [] xs = omega arith
  length-kept-le (n ∷ ns) [] = omega arith
  length-kept-le (n ∷ ns) (x ∷ xs) = grind (arith, common_steps, length-kept-le ns xs)

  -- where as many are kept as there are, all are
  pub kept-all : (ns : List ℕ) (xs : List X) → length (kept ns xs) ≡ length xs
      → kept ns xs ≡ xs
  kept-all [] xs h = grind (arith, common_steps, nil_from_length)
  kept-all (n ∷ ns) [] h = refl
  kept-all (n ∷ ns) (x ∷ xs) h = grind (arith, common_steps, length-kept-le, kept-all ns xs)

  -- the elements ys of xs are those that numbers ns keep and numbers ms do not
  abbrev pub AreKept : List ℕ → List ℕ → List X → List X → Type 0
  AreKept ms ns xs ys = IsPermutation (kept ms xs ++ ys) (kept ns xs)

  -- one more, for which there is room
  pub AreKept-more : (ms ns : List ℕ) (xs ys : List X) (i m : ℕ) (y : X) → AreKept ms ns xs ys
      → length ns ≡ length xs → i < length xs → p (get_or ns i 0) ≡ false → p m ≡ true
      → y ≡ get_or xs i y
      → AreKept ms (set ns i m) xs (ys ++ y ∷ []) × (length ys < length xs)
  AreKept-more ms ns xs ys i m y h long inside out passes is =
      let more : AreKept ms (set ns i m) xs (ys ++ y ∷ []) =
      subst (λ zs. IsPermutation zs (kept (set ns i m) xs))
      (append_assoc (kept ms xs) ys (y ∷ []))
      (IsPermutation-push_more _ _ _ y h
      (kept-set ns xs i m y (omega arith) inside out passes is)) in
      let room : length ys < length xs =
      grind (arith, common_steps, length_permutation _ _ more, length-kept-le, length-append) in
      (more, room)

  -- where they are as many as xs, they are all of xs
  pub AreKept-all : (ms ns : List ℕ) (xs ys : List X) → AreKept ms ns xs ys
      → length ys ≡ length xs
      → IsPermutation xs ys
  AreKept-all ms ns xs ys h long =
      let sizes : length (kept ns xs) ≡ length (kept ms xs) + length ys =
      omega (arith, length_permutation _ _ h, length-append (kept ms xs) ys) in
      let none : kept ms xs ≡ [] = nil_from_length _ (omega (arith, length-kept-le ns xs)) in
      let all : kept ns xs ≡ xs = kept-all ns xs (omega (arith, length-kept-le ns xs)) in
      grind (arith, common_steps, IsPermutation-sym, none, all, h)
