use Rattle.codespan_core.proofs.Std.{rules}
use Rattle.codespan_core.proofs.diagnostic.Diagnostic.with_label.Goals as goal

-- the list after the call is the old one with the label at its end
pub returns-clause-labels : goal.returns-clause-labels
returns-clause-labels g c = search rules depth 2 fits 100
