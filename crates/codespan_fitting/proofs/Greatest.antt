-- For `find_radius`: the greatest number that passes a test, and the cells of gaps at two radii.
use Rattle.codespan_core.proofs.Std.{◌≡◌, ℕ, zero, suc, ◌<◌, ◌≤◌, Bool, true}
use Rattle.codespan_core.proofs.Std.{false, List, [], ◌∷◌, nat_le, ap, sym, ◌∙◌, arith}
use Rattle.codespan_core.proofs.Std.{⊎_elim, cases_lt, chars, slice_range, lt-leb, nat_tests}
use Rattle.codespan_output.specs.FittedParts.{greatest}
use Rattle.codespan_fitting.specs.declared.gap.Gap.{Gap}
use Rattle.codespan_fitting.specs.Gaps.{gap_cells}
use Rattle.codespan_output.proofs.WiderRadius.Gaps.{gap-wider, units-rest}

-- a number that passes, or is 0, is the greatest one where all above it fail
pub greatest-is : (p : ℕ → Bool) (n k : ℕ) → k ≤ n → (0 < k → p k ≡ true)
    → ((r : ℕ) → k < r → r ≤ n → p r ≡ false) → k ≡ greatest p n
greatest-is p zero k h passes fail = omega (arith, h)
greatest-is p (suc n) k h passes fail =
    ⊎_elim
    (λ below.
    rw (fail (suc n) below (omega arith))
    (greatest-is p n k (omega (arith, below)) passes
    (λ r low high. fail r low (omega (arith, high)))))
    (λ past.
    let same : k ≡ suc n = omega (arith, h, past) in
    let pass : p (suc n) ≡ true = ap p (sym same) ∙ passes (omega (arith, same)) in
    rw pass same)
    (cases_lt k (suc n))

-- gaps have at least as many cells at a wider radius
cells-wider : (r s tab : ℕ) (text : List ℕ) (gaps : List Gap) → r ≤ s
    → gap_cells r tab text gaps ≤ gap_cells s tab text gaps
cells-wider r s tab text [] h = omega arith
cells-wider r s tab text (gap ∷ gaps) h =
    omega (
      arith,
      gap-wider r s gap.is_after_needed gap.is_before_needed _ h
          (units-rest tab (chars (slice_range text gap.start gap.end))),
      cells-wider r s tab text gaps h,
    )

-- so where they do not fit at a radius, they do not at a wider one
pub cells-past : (r s tab left : ℕ) (text : List ℕ) (gaps : List Gap) → r ≤ s
    → nat_le (gap_cells r tab text gaps) left ≡ false
    → nat_le (gap_cells s tab text gaps) left ≡ false
cells-past r s tab left text gaps h past =
    let more : left < gap_cells r tab text gaps = grind (arith, nat_tests) in
    lt-leb (gap_cells s tab text gaps) left (omega (arith, more, cells-wider r s tab text gaps h))
