use Rattle.codespan_core.proofs.Std.{ℕ, ◌-◌, ◌<◌, ◌≤◌, length, ◌≢◌}
use Rattle.std.specs.Prelude.{slice_index}
use Rattle.codespan_core.proofs.files.newline.find_newlines.Given as goal

abbrev pub invariant-loop-start : goal.invariant-loop-start
invariant-loop-start l = record {
  low : l.fn.from ≤ l.start;
  high : l.start ≤ length l.bytes;
  before : (i : ℕ) → l.fn.from ≤ i → i < l.start → slice_index l.bytes i ≢ 10;
}

abbrev pub decreases-loop-start : goal.decreases-loop-start
decreases-loop-start l = length l.bytes - l.start
