use Rattle.codespan_edits.proofs.OneByOne.{one-by-one}
use Rattle.codespan_edits.proofs.laws.edits_are_one_by_one.Goals as goal

pub returns : goal.returns
returns c = one-by-one
