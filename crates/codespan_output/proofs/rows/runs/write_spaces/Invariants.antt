use Rattle.codespan_core.specs.Streams.{spaces}
use Rattle.codespan_core.proofs.Loops.{StillToWrite}
use Rattle.codespan_output.proofs.rows.runs.write_spaces.Given as goal

abbrev pub invariant-loop-left : goal.invariant-loop-left
invariant-loop-left g l =
    StillToWrite (g.W.PutStyle.sink l.fn.w) (spaces l.count) (spaces l.left) (g.W.PutStyle.sink l.w)

abbrev pub decreases-loop-left : goal.decreases-loop-left
decreases-loop-left g l = l.left
