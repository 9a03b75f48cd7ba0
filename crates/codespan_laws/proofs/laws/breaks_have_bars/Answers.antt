use Rattle.codespan_output.proofs.Lanes.Ranges as ranges
use Rattle.codespan_laws.proofs.laws.breaks_have_bars.Goals as goal

pub returns : goal.returns
returns c = λ config layout s ordered. ranges.breaks_have_bars config layout s ordered
