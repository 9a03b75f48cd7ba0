use Rattle.std.proofs.Common.{refl}
use Rattle.codespan_styled.proofs.svg.ink.Ink.of.Goals as goal

-- the color is that of the text, and not of its background
pub returns : goal.returns
returns c = refl
