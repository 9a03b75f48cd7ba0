use Rattle.codespan_edits.proofs.SameEdits.{order-matters-to-insertions}
use Rattle.codespan_edits.proofs.laws.order_matters_to_insertions.Goals as goal

pub returns : goal.returns
returns c = order-matters-to-insertions
