use Rattle.codespan_core.proofs.Std.{rules}
use Rattle.codespan_views.proofs.Outputs.Emitted.{written_back}
use Rattle.codespan_views.proofs.emitting.emit_to_io_write.Goals as goal

pub returns : goal.returns
returns g c =
    written_back g.W.Write.contents c.new-plain.result c.emit_to_write_style.new.writer
    c.new-plain.ensures.begins c.emit_to_write_style.ensures (search rules)
