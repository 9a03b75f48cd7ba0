use Rattle.codespan_core.proofs.Std.{refl}
use Rattle.codespan_core.proofs.term.config.plain.PlainWriter.has_failed.Goals as goal

-- the flag of the sink is the field
pub returns : goal.returns
returns g c = refl
