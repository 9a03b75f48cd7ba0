use Rattle.test_writers.specs.Tags.{tag_sink}
use Rattle.test_writers.proofs.example.TagWriter.write_tag.Goals as goal

pub returns : goal.returns
returns g c =
    let sink = tag_sink c.args.self.now.failed (g.W.Write.contents c.args.self.now.inner) in
    c.forward_all.ensures sink.frame
