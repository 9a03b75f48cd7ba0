use Rattle.codespan_core.proofs.Std.{◌≡◌, ◌+◌, length, decimal}
use Rattle.codespan_output.proofs.padding.count_digits.Given as goal

abbrev pub invariant-loop-rest : goal.invariant-loop-rest
invariant-loop-rest l = length (decimal l.rest) + l.digits ≡ length (decimal l.number) + 1

abbrev pub decreases-loop-rest : goal.decreases-loop-rest
decreases-loop-rest l = l.rest
