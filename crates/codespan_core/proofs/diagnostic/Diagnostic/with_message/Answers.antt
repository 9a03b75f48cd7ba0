use Rattle.codespan_core.proofs.Std.{rules}
use Rattle.codespan_core.proofs.diagnostic.Diagnostic.with_message.Goals as goal

-- the message is the text
pub returns-clause-message : goal.returns-clause-message
returns-clause-message g c = search rules depth 2 fits 100
