use Rattle.codespan_styled.proofs.SvgOrder.{runs_keep_order}
use Rattle.codespan_styled.proofs.svg.laws.texts_keep_order.Goals as goal

pub returns : goal.returns
returns c = runs_keep_order
