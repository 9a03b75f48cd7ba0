use Rattle.codespan_core.specs.{plain_sink}
use Rattle.codespan_core.proofs.term.config.plain.PlainWriterWriteStyle.put.Goals as goal

pub returns-clause-took : goal.returns-clause-took
returns-clause-took g c = let sink = plain_sink g.W.Write.contents c.args.self.now in
    c.forward_put.ensures.took sink.frame
