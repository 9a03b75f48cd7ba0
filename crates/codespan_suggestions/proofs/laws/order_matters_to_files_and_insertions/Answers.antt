use Rattle.codespan_suggestions.proofs.SameEdits.{order-matters}
use Rattle.codespan_suggestions.proofs.laws.order_matters_to_files_and_insertions.Goals as goal

pub returns : goal.returns
returns g c = order-matters
