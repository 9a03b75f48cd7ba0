use Rattle.std.proofs.Common.{refl}
use Rattle.codespan_base.proofs.StyleMarks.{is_known_contents, prefix_written}
use Rattle.writer_runs.proofs.BrokenStyleMarks.{first_written, first_prefix}
use Rattle.writer_runs.proofs.sequence_writer.SequenceWriter.fail_at_style_mark.Goals as goal

pub returns-in-Ok : goal.returns-in-Ok
returns-in-Ok g c = (
  refl,
  λ outcome. prefix_written _ _ _ (first_written _ _ _ _ _ c.split_at.ensures.front
      (c.in-Ok.ensures.appends (is_known_contents _ outcome))),
)

pub returns-in-Err : goal.returns-in-Err
returns-in-Err g c = (
  refl,
  λ outcome. prefix_written _ _ _ (first_prefix _ _ _ _ _ c.split_at.ensures.front
      (c.in-Err.ensures.appends (is_known_contents _ outcome))),
)
