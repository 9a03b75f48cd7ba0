use Rattle.codespan_base.proofs.NumbersCountOn as numbers
use Rattle.codespan_base.proofs.laws.set_numbers_count_on.Goals as goal

pub returns : goal.returns
returns c = λ set_numbers k v i sorted. numbers.nearest_set_once_set set_numbers k v i sorted
