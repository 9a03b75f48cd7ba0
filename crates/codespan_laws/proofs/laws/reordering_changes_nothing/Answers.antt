use Rattle.codespan_laws.proofs.OrderPictures as orders
use Rattle.codespan_laws.proofs.laws.reordering_changes_nothing.Goals as goal

pub returns : goal.returns
returns g c = λ same file. orders.reordering_changes_nothing same file
