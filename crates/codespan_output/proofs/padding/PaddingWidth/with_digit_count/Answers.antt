use Rattle.codespan_core.proofs.Std.{arith}
use Rattle.codespan_output.proofs.DrawnLines.Digits.{few_digits}
use Rattle.codespan_output.proofs.padding.PaddingWidth.with_digit_count.Goals.{in-1, in-2, in-3}
use Rattle.codespan_output.proofs.padding.PaddingWidth.with_digit_count.Goals.{in-4, in-5, in-6}
use Rattle.codespan_output.proofs.padding.PaddingWidth.with_digit_count.Goals.{in_default}
use Rattle.codespan_output.proofs.padding.PaddingWidth.with_digit_count.Goals as goal

pub invariant_of-result : goal.invariant_of-result
invariant_of-result c = elim c.match-digit_count.branch [
  | in-1 w ↦ rw (w.in-1.is, w.limit-is)
      (record { fits = λ n below. few_digits 1 n (omega arith) (omega arith) below })
  | in-2 w ↦ rw (w.in-2.is, w.limit-is)
      (record { fits = λ n below. few_digits 2 n (omega arith) (omega arith) below })
  | in-3 w ↦ rw (w.in-3.is, w.limit-is)
      (record { fits = λ n below. few_digits 3 n (omega arith) (omega arith) below })
  | in-4 w ↦ rw (w.in-4.is, w.limit-is)
      (record { fits = λ n below. few_digits 4 n (omega arith) (omega arith) below })
  | in-5 w ↦ rw (w.in-5.is, w.limit-is)
      (record { fits = λ n below. few_digits 5 n (omega arith) (omega arith) below })
  | in-6 w ↦ rw (w.in-6.is, w.limit-is)
      (record { fits = λ n below. few_digits 6 n (omega arith) (omega arith) below })
  | in_default w ↦ rw w.limit-is (record { fits = λ n below. absurd (omega (arith, below)) })
]
