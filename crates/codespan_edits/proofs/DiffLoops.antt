-- Facts on the loops that make the rows of a diff, for the clauses of `rows`.
use Rattle.codespan_core.proofs.Std.{◌≡◌, ℕ, zero, suc, ◌+◌, ◌-◌, ◌<◌}
use Rattle.codespan_core.proofs.Std.{◌≤◌, Bool, true, false, cond, List, [], ◌∷◌}
use Rattle.codespan_core.proofs.Std.{length, get_or, drop, map, reverse, min, refl, sym, ap}
use Rattle.codespan_core.proofs.Std.{◌∙◌, arith, length-drop, ◌==◌, not, slice_get, Some}
use Rattle.codespan_core.proofs.Std.{bytes_eq, drop_more, get_or-map, length-map}
use Rattle.std.specs.Borrow.{Bor}
use Rattle.std.proofs.lemmas.List.{get_or-reverse}
use Rattle.codespan_edits.specs.Diffs.{is_whole, common_start}

-- two lists of lines, and the test whether the lines at an index differ
module _ (xs ys : List (List ℕ)) (n : ℕ) (in_x : n < length xs) (in_y : n < length ys)
    (x y : List ℕ) (differ : Bool) (is_x : get_or xs n [] ≡ x) (is_y : get_or ys n [] ≡ y)
    (test : differ ≡ not (bytes_eq x y)) where
  -- the lines in common from there on
  from-there : common_start (drop n xs) (drop n ys)
      ≡ cond (bytes_eq x y) (1 + common_start (drop (n + 1) xs) (drop (n + 1) ys)) 0
  from-there =
      ap (λ zs. common_start zs (drop n ys))
      (drop_more xs n [] in_x ∙ ap (λ z. z ∷ drop (n + 1) xs) is_x)
      ∙ ap (λ zs. common_start (x ∷ drop (n + 1) xs) zs)
      (drop_more ys n [] in_y ∙ ap (λ z. z ∷ drop (n + 1) ys) is_y)

  -- where the two lines are the same, there is one more
  pub start-more : differ ≡ false → common_start xs ys ≡ n + common_start (drop n xs)
      (drop n ys)
      → common_start xs ys ≡ (n + 1) + common_start (drop (n + 1) xs) (drop (n + 1) ys)
  start-more same was =
      by_test (bytes_eq x y) (sym same ∙ test) from-there
    where
      by_test : (t : Bool) → false ≡ not t → common_start (drop n xs) (drop n ys)
          ≡ cond t (1 + common_start (drop (n + 1) xs) (drop (n + 1) ys)) 0
          → common_start xs ys ≡ (n + 1) + common_start (drop (n + 1) xs) (drop (n + 1) ys)
      by_test true h rest = omega (arith, was, rest)
      by_test false h rest = absurd (cc)

  -- otherwise there is none
  pub start-here : differ ≡ true → common_start xs ys ≡ n + common_start (drop n xs)
      (drop n ys)
      → n ≡ common_start xs ys
  start-here other was =
      by_test (bytes_eq x y) (sym other ∙ test) from-there
    where
      by_test : (t : Bool) → true ≡ not t → common_start (drop n xs) (drop n ys)
          ≡ cond t (1 + common_start (drop (n + 1) xs) (drop (n + 1) ys)) 0
          → n ≡ common_start xs ys
      by_test true h rest = absurd (cc)
      by_test false h rest = omega (arith, was, rest)

-- at the end of the shorter list there is none
pub start-end : (xs ys : List (List ℕ)) (n : ℕ) → min (length xs) (length ys) ≤ n
    → common_start xs ys ≡ n + common_start (drop n xs) (drop n ys)
    → n ≡ common_start xs ys
start-end xs ys n past was =
    sym (was ∙ (ap (λ m. n + m) (none (drop n xs) (drop n ys) short) ∙ omega arith)) where
      short : min (length (drop n xs)) (length (drop n ys)) ≡ 0
      short = omega (arith, length-drop n xs, length-drop n ys)

      none : (as_x as_y : List (List ℕ)) → min (length as_x) (length as_y) ≡ 0
          → common_start as_x as_y ≡ 0
      none [] as_y h = refl
      none (x ∷ zs) [] h = refl
      none (x ∷ zs) (y ∷ ws) h = absurd (omega (arith, h))

-- whether a text that is not empty is whole, from its last byte
pub whole-at : (bs : List ℕ) (k : ℕ) → k + 1 ≡ length bs → is_whole bs ≡
    (get_or bs k 0 == 10)
whole-at [] k h = absurd (omega (arith, h))
whole-at (b ∷ []) zero h = refl
whole-at (b ∷ []) (suc k) h = absurd (omega (arith, h))
whole-at (b ∷ (c ∷ cs)) zero h = absurd (omega (arith, h))
whole-at (b ∷ (c ∷ cs)) (suc k) h = whole-at (c ∷ cs) k (omega (arith, h))

-- the item of a list at an index
slice_get-at : (bs : List ℕ) (k b : ℕ) → Some b ≡ slice_get bs k
    → (k < length bs) × (get_or bs k 0 ≡ b)
slice_get-at [] k b h = absurd (cc)
slice_get-at (x ∷ xs) zero b h = (omega arith, cc)
slice_get-at (x ∷ xs) (suc k) b h =
    let r = slice_get-at xs k b h in (omega (arith, r.0), r.1)

-- whether a text is whole, from its last byte
pub whole-last : (bs text : List ℕ) (b : ℕ) → bs ≡ text → Some b ≡ slice_get bs
    (length bs - 1)
    → (b == 10) ≡ is_whole text
whole-last bs text b same h =
    let r = slice_get-at bs (length bs - 1) b h in
    sym (ap is_whole (sym same)
    ∙ (whole-at bs (length bs - 1) (omega (arith, r.0)) ∙ ap (λ x. x == 10) r.1))

-- the line at an index from the end
pub line-from_end : (xs : List (Bor (List ℕ))) (n : ℕ) (d : Bor (List ℕ)) → n < length xs
    → get_or (reverse (map (λ x. x.now) xs)) n [] ≡ (get_or xs (length xs - 1 - n) d).now
line-from_end xs n d h =
    let size : length (map (λ (x : Bor (List ℕ)). x.now) xs) ≡ length xs = rw length-map
    refl in
    get_or-reverse (map (λ x. x.now) xs) n [] (rw length-map h)
    ∙ (ap (λ m. get_or (map (λ x. x.now) xs) (m - 1 - n) []) size
    ∙ get_or-map (λ x. x.now) xs (length xs - 1 - n) d [] (omega (arith, h)))
