use Rattle.codespan_native.specs.StyleMarkWriters.{style_mark_sink}
use Rattle.codespan_native.proofs.style_mark_writer.StyleMarkWriterWriteStyle.put.Goals as goal

pub returns-clause-took : goal.returns-clause-took
returns-clause-took g c =
    let sink = style_mark_sink c.args.self.now.failed (g.W.Write.contents c.args.self.now.inner) in
    c.forward_put.ensures.took sink.frame
