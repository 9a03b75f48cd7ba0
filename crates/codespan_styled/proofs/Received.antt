-- The runs of what a writer has received: for the clause `runs` of `Recorder::into_text`.
use Rattle.std.proofs.Common.{◌≡◌, ◌∷◌, Some, ap, ◌∙◌}
use Rattle.codespan_base.specs.Streams.{spelled}
use Rattle.codespan_base.specs.WriterLaw.{Sink, extended, with_written}
use Rattle.codespan_base.specs.declared.term.config.style_mark.StyleMark.TheVariants.{Reset}
use Rattle.codespan_styled.specs.declared.recorder.Recorder.{Recorder}
use Rattle.codespan_styled.specs.Recorders.{AreRunsReceived, ended_runs, recorded, recorded_runs}
use Rattle.codespan_styled.specs.Recorders.{style_number, style_spelling}
use Rattle.codespan_styled.proofs.Bytes.{runs-bytes}
use Rattle.codespan_styled.proofs.Decoding.{runs_of_recorded}

-- runs that are recorded as all that a writer holds are those of what it has received
pub runs_received : (old new : Recorder) → recorded_runs (ended_runs new) ≡ recorded old
    → AreRunsReceived old (ended_runs new)
unfolding with_written extended
runs_received old new is = λ s received bytes.
    let whole : Some (recorded old) ≡ Some (style_number Reset ∷ spelled style_spelling s) =
    ap (λ (x : Sink). x.contents) received in
    runs_of_recorded (ended_runs new) s (runs-bytes new.runs.items) bytes (is ∙ cc)
