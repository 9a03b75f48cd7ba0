use Rattle.std.proofs.Common.{refl}
use Rattle.codespan_styled.proofs.svg.color_on_dark.Goals as goal

-- red has a color of its own
pub returns-in-Red : goal.returns-in-Red
returns-in-Red c = rw c.in-Red.is refl
