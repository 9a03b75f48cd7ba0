use Rattle.codespan_views.proofs.Lines.Fitted.{whole}
use Rattle.codespan_views.proofs.snippet.fitted_line.fitted_line.Goals as goal

pub returns-in-None-clause-fitted : goal.returns-in-None-clause-fitted
returns-in-None-clause-fitted c = whole _ _ _ c.in-None.is
