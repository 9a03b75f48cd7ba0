use Rattle.codespan_output.proofs.Lanes.Ranges as ranges
use Rattle.codespan_laws.proofs.laws.bars_are_labels.Goals as goal

pub returns : goal.returns
returns c = λ layout s ordered. ranges.bars_are_labels layout s ordered
