use Rattle.std.proofs.Common.{◌≡◌, ℕ, ◌<◌, true}
use Rattle.codespan_fitting.specs.Walks.{IsPrintableAt}
use Rattle.codespan_fitting.proofs.measure.is_plain.Given as goal

abbrev pub invariant-loop-byte : goal.invariant-loop-byte
invariant-loop-byte l = l.plain ≡ true → (k : ℕ) → k < l.byte-index
    → IsPrintableAt l.block k
