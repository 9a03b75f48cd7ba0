use Rattle.codespan_core.proofs.Std.{refl, rules}
use Rattle.codespan_core.proofs.diagnostic.Diagnostic.with_code.Goals as goal

-- the code is set
pub returns-clause-set : goal.returns-clause-set
returns-clause-set g c = refl

-- the bytes of the code are those that are displayed
pub returns-clause-code : goal.returns-clause-code
returns-clause-code g c = search rules depth 2 fits 100
