use Rattle.writer_runs.specs.Spellings.{sequence_sink}
use Rattle.writer_runs.proofs.sequence_writer.SequenceWriter.write_style_mark.Goals as goal

pub returns-else-self-eq0 : goal.returns-else-self-eq0
returns-else-self-eq0 g c =
    let sink = sequence_sink c.args.self.now.failed (g.W.Write.contents c.args.self.now.inner) in
    c.forward_all.ensures sink.frame
