use Rattle.codespan_output.proofs.Order.OrderSorts.{sorts_labels}
use Rattle.codespan_laws.proofs.laws.sorted_is_stable_sort.Goals as goal

pub returns : goal.returns
returns c = λ labels. sorts_labels labels
