use Rattle.codespan_core.specs.Streams.{repeated}
use Rattle.codespan_core.proofs.Loops.{StillToWrite}
use Rattle.codespan_output.proofs.rows.runs.write_repeated.Given as goal

abbrev pub invariant-loop-left : goal.invariant-loop-left
invariant-loop-left g l =
    StillToWrite (g.W.PutStyle.sink l.fn.w) (repeated l.count l.c) (repeated l.left l.c)
    (g.W.PutStyle.sink l.w)

abbrev pub decreases-loop-left : goal.decreases-loop-left
decreases-loop-left g l = l.left
