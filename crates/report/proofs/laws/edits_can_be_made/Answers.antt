use Rattle.report.proofs.FaultyEdits as edits
use Rattle.report.proofs.laws.edits_can_be_made.Goals as goal

pub returns : goal.returns
returns c = λ input. edits.can_be_made input
