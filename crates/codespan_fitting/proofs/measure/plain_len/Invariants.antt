use Rattle.std.proofs.Common.{ℕ, ◌-◌, ◌<◌, ◌≤◌, length}
use Rattle.codespan_fitting.specs.Walks.{IsPrintableAt}
use Rattle.codespan_fitting.proofs.measure.plain_len.Given as goal

abbrev pub invariant-loop-len : goal.invariant-loop-len
invariant-loop-len l = record {
  within : l.len ≤ length l.bytes;
  most : l.len ≤ l.most;
  printable : (k : ℕ) → k < l.len → IsPrintableAt l.bytes k;
}

abbrev pub decreases-loop-len : goal.decreases-loop-len
decreases-loop-len l = length l.bytes - l.len
