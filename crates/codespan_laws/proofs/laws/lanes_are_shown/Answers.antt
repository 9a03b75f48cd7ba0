use Rattle.codespan_output.proofs.Lanes.Shown as lanes
use Rattle.codespan_laws.proofs.laws.lanes_are_shown.Goals as goal

pub returns : goal.returns
returns c = lanes.lanes_are_shown
