use Rattle.std.proofs.Common.{ℕ, ◌≤◌}
use Rattle.codespan_native.specs.declared.error.Argument.{Argument}
use Rattle.codespan_native.specs.Validity.{IsValidAt, argument_number}
use Rattle.codespan_native.proofs.validate.first_invalid.Given as goal

-- the arguments so far are valid
abbrev pub invariant-loop-argument : goal.invariant-loop-argument
invariant-loop-argument l =
    (b : Argument) (j : ℕ) → argument_number b ≤ l.argument-index
    → IsValidAt l.files l.diagnostic l.config b j
