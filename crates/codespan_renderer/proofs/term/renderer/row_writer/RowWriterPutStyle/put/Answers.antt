use Rattle.codespan_renderer.proofs.ThroughReference.{puts_through}
use Rattle.codespan_renderer.proofs.RowWriters.{puts_as}
use Rattle.codespan_renderer.proofs.term.renderer.row_writer.RowWriterPutStyle.put.Goals as goal

pub returns-clause-took : goal.returns-clause-took
returns-clause-took g c =
    puts_as _ _ _ _ _ c.save.ensures (puts_through _ _ _ _ _ c.put.ensures.took)
