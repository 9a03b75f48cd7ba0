-- What the numbers of a range have, one after another, and the lines around the two ends of a
-- label: for the clauses of `collect_lines`.
use Rattle.codespan_core.proofs.Std.{◌≡◌, ℕ, ◌+◌, ◌<◌, ◌≤◌, Bool, true, false}
use Rattle.codespan_core.proofs.Std.{◌&&◌, ◌||◌, List, [], ◌∷◌, ◌++◌, refl, arith}
use Rattle.codespan_core.proofs.Std.{nat_lt, nat_le, if◌then◌else◌, filter, flat_map}
use Rattle.codespan_core.proofs.Std.{common_steps, zero, suc, ◌-◌, range_with_len}
use Rattle.codespan_core.proofs.Std.{flat_map-append}
use Rattle.codespan_output.specs.Lines.{spans}
use Rattle.codespan_output.proofs.Carets.Cells.{range_with_len-append}

-- the images of the elements that pass a test
pub flat_map_filtered : {X : Type 0} (h : ℕ → List X) (p : ℕ → Bool) (ls : List ℕ)
    → flat_map h (filter p ls) ≡ flat_map (λ l. if p l then h l else []) ls
flat_map_filtered h p [] = refl
flat_map_filtered {X} h p (l ∷ ls) = grind (arith, common_steps, flat_map_filtered h p ls)

-- ---- the lines around two others, as far as `b` lines before them and `a` after them

-- a line is one of those
abbrev pub is_near : ℕ → ℕ → ℕ → ℕ → ℕ → Bool
is_near s e b a l =
    spans s e l || ((nat_lt l s && nat_le s (l + b)) || (nat_lt e l && nat_le l (e + a)))

pub after_both : (s e b a l : ℕ) → s < l → e < l → l ≤ e + a
    → is_near s e b a l ≡ true
after_both s e b a l low high reach = grind (arith, common_steps)

pub above_both : (s e b a l : ℕ) → s < l → e + a < l → is_near s e b a l ≡ false
above_both s e b a l low high = grind (arith, common_steps)

pub below_both : (s e b a l : ℕ) → l < e → l + b < s → is_near s e b a l ≡ false
below_both s e b a l low high = grind (arith, common_steps)

pub near_after : (s e b a l : ℕ) → s < l → e < l → is_near s e b a l ≡ true
    → l ≤ e + a
near_after s e b a l low high near = grind (arith, common_steps)

module _ {X : Type 0} (g : ℕ → List X) where
  -- where each of some numbers has no elements, all have none
  pub flat_map_none : (a n : ℕ) → ((l : ℕ) → a ≤ l → l < a + n → g l ≡ [])
      → flat_map g (range_with_len a n) ≡ []
  flat_map_none a zero none = refl
  flat_map_none a (suc n) none = grind (arith, common_steps, flat_map_none (a + 1) n)

  -- the elements of the numbers below one are those of the numbers below a lesser one, and more
  pub flat_map_split : (n m : ℕ) → n ≤ m
      → flat_map g (range_with_len 0 m) ≡ flat_map g (range_with_len 0 n) ++ flat_map g
      (range_with_len n (m - n))
  flat_map_split n m le = grind
      (arith, common_steps, range_with_len-append 0 n (m - n), flat_map-append)
