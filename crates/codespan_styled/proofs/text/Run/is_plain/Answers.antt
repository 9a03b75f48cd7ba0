use Rattle.std.proofs.Common.{refl}
use Rattle.codespan_styled.proofs.text.Run.is_plain.Goals as goal

-- text after a reset alone is plain
pub returns-in-Reset : goal.returns-in-Reset
returns-in-Reset c = rw c.in-Reset.is refl
