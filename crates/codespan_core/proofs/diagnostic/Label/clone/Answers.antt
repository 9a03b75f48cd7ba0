use Rattle.codespan_core.proofs.Std.{refl}
use Rattle.codespan_core.proofs.diagnostic.Label.clone.Goals as goal

-- the copied message is the same, and the other fields are copied
pub returns-clause-same : goal.returns-clause-same
returns-clause-same g c = rw c.in_ok-clone.ensures.cases refl
