-- Facts on the line of a byte, for the clauses of `positions`.
use Rattle.std.proofs.Common.{◌≡◌, ℕ, zero, suc, ◌+◌, ◌<◌, ◌≤◌, List, []}
use Rattle.std.proofs.Common.{◌∷◌, length, get_or, arith, inl, inr}
use Rattle.std.specs.Prelude.{count_by, nat_le}
use Rattle.std.proofs.lemmas.Bool.{cases_lt, le-leb}
use Rattle.std.proofs.lemmas.List.Sums.{sum_by-cons}
use Rattle.codespan_base.specs.FileModel.{FileModel, line_of, line_start}
use Rattle.codespan_base.specs.LawfulFiles.{IsLawful}
use Rattle.codespan_base.specs.Lemmas.Lines.{count_split}
use Rattle.std.proofs.lemmas.Grind.{common_steps}

-- of ascending numbers each is at least the first
first-le : (x : ℕ) (xs : List ℕ)
    → ((i : ℕ) → i + 1 < length (x ∷ xs)
    → get_or (x ∷ xs) i 0 < get_or (x ∷ xs) (i + 1) 0)
    → (k : ℕ) → k < length (x ∷ xs) → x ≤ get_or (x ∷ xs) k 0
first-le x xs up zero h = omega arith
first-le x xs up (suc k) h = grind (arith, common_steps, first-le x xs up k (omega arith))

-- those after the first ascend too
rest-ascends : (x : ℕ) (xs : List ℕ)
    → ((i : ℕ) → i + 1 < length (x ∷ xs)
    → get_or (x ∷ xs) i 0 < get_or (x ∷ xs) (i + 1) 0)
    → (i : ℕ) → i + 1 < length xs → get_or xs i 0 < get_or xs (i + 1) 0
rest-ascends x xs up i h =
    let e : suc i + 1 ≡ suc (i + 1) = omega arith in
    rw e at (up (suc i) (omega arith))

-- a count that is not 0 starts with a number that is counted
none-counted : (b x : ℕ) (xs : List ℕ)
    → ((i : ℕ) → i + 1 < length (x ∷ xs)
    → get_or (x ∷ xs) i 0 < get_or (x ∷ xs) (i + 1) 0)
    → b < x → count_by (λ s. nat_le s b) (x ∷ xs) ≡ 0
none-counted b x xs up h =
    count_split b (x ∷ xs) 0 (omega arith) (λ k p. absurd (omega arith))
    (λ k p q. omega (arith, first-le x xs up k q))

one-counted : (b x : ℕ) (xs : List ℕ) → x ≤ b
    → count_by (λ s. nat_le s b) (x ∷ xs) ≡ 1 + count_by (λ s. nat_le s b) xs
one-counted b x xs h = grind (arith, common_steps, sum_by-cons, le-leb)

-- where k + 1 of ascending numbers are at most b, the one at k is
counted-le : (b : ℕ) (xs : List ℕ)
    → ((i : ℕ) → i + 1 < length xs → get_or xs i 0 < get_or xs (i + 1) 0)
    → (k : ℕ) → count_by (λ s. nat_le s b) xs ≡ suc k → get_or xs k 0 ≤ b
counted-le b [] up k e = absurd (omega (arith, e))
counted-le b (x ∷ xs) up zero e =
    elim (cases_lt b x) [
      | inl p ↦ absurd (omega (arith, e, none-counted b x xs up p))
      | inr p ↦ p
    ]
counted-le b (x ∷ xs) up (suc k) e =
    elim (cases_lt b x) [
      | inl p ↦ absurd (omega (arith, e, none-counted b x xs up p))
      | inr p ↦ counted-le b xs (rest-ascends x xs up) k (omega (arith, e, one-counted b x xs p))
    ]

-- the first start is counted
some-counted : (b : ℕ) (xs : List ℕ) → 0 < length xs → get_or xs 0 0 ≡ 0
    → 0 < count_by (λ s. nat_le s b) xs
some-counted b [] h first = absurd (omega arith)
some-counted b (x ∷ xs) h first = omega (arith, one-counted b x xs (omega (arith, first)))

-- a byte's line starts at the byte or before it
pub line_of-start : (f : FileModel) → IsLawful f → (byte : ℕ)
    → line_start f (line_of f.starts byte) ≤ byte
unfolding line_of
line_of-start f law byte =
    counted-le byte f.starts law.ascending (line_of f.starts byte)
    (omega (arith, some-counted byte f.starts law.has_line law.first))
