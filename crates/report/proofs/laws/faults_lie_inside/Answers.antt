use Rattle.report.proofs.FaultRanges as ranges
use Rattle.report.proofs.laws.faults_lie_inside.Goals as goal

pub returns : goal.returns
returns c = λ input. ranges.faults_lie input
