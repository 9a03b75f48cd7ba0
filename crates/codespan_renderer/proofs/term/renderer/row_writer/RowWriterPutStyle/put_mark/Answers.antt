use Rattle.codespan_renderer.proofs.ThroughReference.{writes_through}
use Rattle.codespan_renderer.proofs.RowWriters.{writes_as}
use Rattle.codespan_renderer.proofs.term.renderer.row_writer.RowWriterPutStyle.put_mark.Goals as goal

pub returns : goal.returns
returns g c = writes_as _ _ _ _ _ c.save.ensures (writes_through _ _ _ _ _ c.put_mark.ensures)
