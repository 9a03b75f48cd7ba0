use Rattle.writer_runs.specs.Spellings.{sequence_sink}
use Rattle.writer_runs.proofs.sequence_writer.SequenceWriterWriteStyle.put.Goals as goal

pub returns-clause-took : goal.returns-clause-took
returns-clause-took g c =
    let sink = sequence_sink c.args.self.now.failed (g.W.Write.contents c.args.self.now.inner) in
    c.forward_put.ensures.took sink.frame
