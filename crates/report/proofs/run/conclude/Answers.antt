use Rattle.codespan_core.proofs.Std.{inr, refl}
use Rattle.report.proofs.run.conclude.Goals as goal

-- the status of a script's error
pub returns-in-Ok-clause-status : goal.returns-in-Ok-clause-status
returns-in-Ok-clause-status g c =
    let error = c.in-Err-Program-BadScript in
    inr (refl, (error.text, cc (error.is, error.field-0-is, error.field-0-0-is)))
