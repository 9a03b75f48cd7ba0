-- The digits of a number: for `count_digits`, one division after another, and for the ghost field
-- of `PaddingWidth`.
use Rattle.codespan_core.proofs.Std.{◌≡◌, ℕ, ◌+◌, ◌/◌, ◌%◌, ◌^◌, ◌<◌}
use Rattle.codespan_core.proofs.Std.{◌≤◌, length, decimal, ap, ◌∙◌, arith}
use Rattle.std.proofs.lemmas.Fmt.{decimal_digit, decimal_step, length-decimal-le}
use Rattle.std.proofs.lemmas.List.{length_push}

pub digits_step : (n : ℕ) → 10 ≤ n → n < 2 ^ 64
    → length (decimal n) ≡ length (decimal (n / 10)) + 1
digits_step n h k = ap length (decimal_step n h k) ∙ length_push (decimal (n / 10)) (48 + n % 10)

pub digits_last : (n : ℕ) → n < 10 → length (decimal n) ≡ 1
digits_last n h = ap length (decimal_digit n h)

pub digits_few : (n : ℕ) → n < 2 ^ 64 → length (decimal n) ≤ 20
digits_few n h = length-decimal-le 20 n (omega arith) (omega arith) h

-- a number below a power of ten has no more digits than the power's exponent
pub few_digits : (k n : ℕ) → 0 < k → 10 ^ k < 2 ^ 64 → n < 10 ^ k
    → length (decimal n) ≤ k
few_digits k n some small below = length-decimal-le k n some below (omega (arith, small, below))

pub ruleset counting = (digits_step, digits_last, digits_few)
