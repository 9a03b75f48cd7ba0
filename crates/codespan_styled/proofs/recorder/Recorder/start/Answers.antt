use Rattle.std.proofs.Common.{[], Ok, Err, refl, ap}
use Rattle.codespan_base.specs.WriterLaw.{Frame}
use Rattle.codespan_base.proofs.StyleMarks.{Writes-style_mark, is_known_contents, appended_written}
use Rattle.codespan_base.proofs.StyleMarks.{prefix_written}
use Rattle.codespan_styled.specs.Recorders.{recorder_sink, style_spelling}
use Rattle.codespan_styled.proofs.recorder.Recorder.start.Goals as goal

-- the spelling of a style mark is its number
pub returns-in-Ok : goal.returns-in-Ok
returns-in-Ok c =
    let frame = ap
    (λ failed. let f : Frame =
    record { spelling = style_spelling; failed = failed; borrows = [] } in f)
    c.in-Ok.ensures.flag in
    Writes-style_mark {E = Unit {0}} (recorder_sink c.args.self.now) c.args.mark (Ok tt)
    (recorder_sink c.push_run.new.self) (
      frame,
      λ known. appended_written _ _ _ frame (c.in-Ok.ensures.appends (is_known_contents _ known)),
    )

pub returns-in-Err : goal.returns-in-Err
returns-in-Err c =
    Writes-style_mark {E = Unit {0}} (recorder_sink c.args.self.now) c.args.mark (Err tt) _
    (refl, λ known. prefix_written _ _ _ (c.in-Err.ensures.appends (is_known_contents _ known)))
