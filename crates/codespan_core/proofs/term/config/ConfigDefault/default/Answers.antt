use Rattle.codespan_core.proofs.Std.{refl}
use Rattle.codespan_core.proofs.term.config.ConfigDefault.default.Goals as goal

-- the characters are those of box drawing, and each other field is that of the definition
pub returns-clause-equal : goal.returns-clause-equal
returns-clause-equal c = record { chars = c.box_drawing.ensures.equal; others = refl }
