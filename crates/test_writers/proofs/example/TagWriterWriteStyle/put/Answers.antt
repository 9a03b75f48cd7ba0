use Rattle.test_writers.specs.Tags.{tag_sink}
use Rattle.test_writers.proofs.example.TagWriterWriteStyle.put.Goals as goal

pub returns-clause-took : goal.returns-clause-took
returns-clause-took g c =
    let sink = tag_sink c.args.self.now.failed (g.W.Write.contents c.args.self.now.inner) in
    c.forward_put.ensures.took sink.frame
