use Rattle.codespan_styled.proofs.Received.{runs_received}
use Rattle.codespan_styled.proofs.recorder.Recorder.into_text.Goals as goal

-- all that the writer holds is recorded as its runs
pub returns-in-Ok-clause-runs : goal.returns-in-Ok-clause-runs
returns-in-Ok-clause-runs c =
    runs_received c.args.self c.push_run.new.self c.in-Ok.ensures.runs
