use Rattle.codespan_core.proofs.Std.{refl}
use Rattle.codespan_core.proofs.term.config.chars.Chars.ascii.Goals as goal

-- each field is that of the definition
pub returns-clause-equal : goal.returns-clause-equal
returns-clause-equal c = record { start = refl; others = refl }
