use Rattle.codespan_styled.proofs.SvgWhiteSpace.{runs-shown}
use Rattle.codespan_styled.proofs.svg.laws.texts_have_no_white_space.Goals as goal

pub returns : goal.returns
returns c = runs-shown
