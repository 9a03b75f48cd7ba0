use Rattle.codespan_base.specs.StyleWriters.{styles_sink}
use Rattle.codespan_base.proofs.term.config.styles_writer.StylesWriterWriteStyle.put.Goals as goal

pub returns-clause-took : goal.returns-clause-took
returns-clause-took g c =
    let sink = styles_sink g.W.Write.contents g.W.WriteColor.style_bytes g.W.WriteColor.reset_bytes
    c.args.self.now in
    c.forward_put.ensures.took sink.frame
