use Rattle.codespan_core.proofs.Std.{refl}
use Rattle.codespan_core.proofs.diagnostic.Diagnostic.new.Goals as goal

-- the code is none
pub returns-clause-code : goal.returns-clause-code
returns-clause-code g c = refl
