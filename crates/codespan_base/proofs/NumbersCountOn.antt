-- For the law `set_numbers_count_on`: what setting a line's number does to all lines' numbers.
use Rattle.codespan_core.proofs.Std.{◌≡◌, ℕ, suc, ◌<◌, List, [], ◌∷◌, length}
use Rattle.codespan_core.proofs.Std.{Option, Some, None, refl, arith, nat_tests, common_steps}
use Rattle.codespan_base.specs.SetLineNumbers.{line_index_at, IsStrictlySorted}
use Rattle.codespan_base.specs.MappedModel.{nearest_set, with_set_number}
use Rattle.codespan_base.specs.FileLaws.{nearest_set_after}

-- the step of the next lemma, from the set number among the later ones
found_step : (b : ℕ) (x : ℕ × ℕ) (l : List (ℕ × ℕ)) (i : ℕ) (t : ℕ × ℕ)
    → b < x.0
    → (o : Option (ℕ × ℕ)) → nearest_set l i ≡ o
    → ((u : ℕ × ℕ) → nearest_set l i ≡ Some u → b < u.0)
    → nearest_set (x ∷ l) i ≡ Some t → b < t.0
found_step b x l i t first (Some u) same later found = grind (arith, common_steps)
found_step b x l i t first None same later found = grind (arith, nat_tests)

-- where all line indices are above b, so is that of the set number that a line counts from
found_above : (b : ℕ) (l : List (ℕ × ℕ)) (i : ℕ) (t : ℕ × ℕ)
    → ((j : ℕ) → j < length l → b < line_index_at l j) → nearest_set l i ≡ Some t
    → b < t.0
found_above b [] i t above found = absurd (cc)
found_above b (x ∷ l) i t above found =
    found_step b x l i t (above 0 (omega arith)) (nearest_set l i) refl
    (λ u e. found_above b l i u (λ j h. above (suc j) (omega arith)) e) found

-- the step of the next lemma, from what it says of the later set numbers
set_step : (x : ℕ × ℕ) (l : List (ℕ × ℕ)) (k v i : ℕ) (o : Option (ℕ × ℕ))
    → nearest_set l i ≡ o
    → ((t : ℕ × ℕ) → nearest_set l i ≡ Some t → x.0 < t.0)
    → nearest_set (with_set_number k v l) i ≡ nearest_set_after k v i (nearest_set l i)
    → nearest_set (with_set_number k v (x ∷ l)) i
    ≡ nearest_set_after k v i (nearest_set (x ∷ l) i)
set_step x l k v i (Some t) same later rest = grind (arith, common_steps)
set_step x l k v i None same later rest = grind (arith, nat_tests)

-- the set number that a line counts from, once one more number is set
pub nearest_set_once_set : (l : List (ℕ × ℕ)) (k v i : ℕ) → IsStrictlySorted l
    → nearest_set (with_set_number k v l) i ≡ nearest_set_after k v i (nearest_set l i)
nearest_set_once_set [] k v i sorted = grind (arith, nat_tests)
nearest_set_once_set (x ∷ l) k v i sorted =
    set_step x l k v i (nearest_set l i) refl
    (λ t e. found_above x.0 l i t (λ j h. sorted 0 (suc j) (omega arith) (omega arith)) e)
    (nearest_set_once_set l k v i (λ p q lt h. sorted (suc p) (suc q) (omega arith) (omega arith)))
