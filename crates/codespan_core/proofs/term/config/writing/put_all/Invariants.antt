use Rattle.codespan_core.proofs.Std.{length}
use Rattle.codespan_core.specs.{byte_stream}
use Rattle.codespan_core.proofs.Loops.{StillToWrite}
use Rattle.codespan_core.proofs.term.config.writing.put_all.Given as goal

abbrev pub invariant-loop-rest : goal.invariant-loop-rest
invariant-loop-rest g l =
    StillToWrite (g.W.PutStyle.sink l.fn.w) (byte_stream l.text) (byte_stream l.rest)
    (g.W.PutStyle.sink l.w)

abbrev pub decreases-loop-rest : goal.decreases-loop-rest
decreases-loop-rest g l = length l.rest
