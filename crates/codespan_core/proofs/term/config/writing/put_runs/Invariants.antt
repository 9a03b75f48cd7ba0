use Rattle.codespan_core.proofs.Std.{◌≤◌}
use Rattle.codespan_core.specs.{repeated}
use Rattle.codespan_core.proofs.Loops.{StillToWrite}
use Rattle.codespan_core.proofs.term.config.writing.put_runs.Given as goal

abbrev pub invariant-loop-left : goal.invariant-loop-left
invariant-loop-left g l = record {
  within : l.left ≤ l.count;
  with_written : StillToWrite (g.W.PutStyle.sink l.fn.w) (repeated l.count l.fn.c)
      (repeated l.left l.fn.c) (g.W.PutStyle.sink l.w);
}

abbrev pub decreases-loop-left : goal.decreases-loop-left
decreases-loop-left g l = l.left
