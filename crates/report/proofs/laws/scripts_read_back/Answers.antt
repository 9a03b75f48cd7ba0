use Rattle.report.proofs.ReadBack as back
use Rattle.report.proofs.laws.scripts_read_back.Goals as goal

pub returns : goal.returns
returns c = λ statements source. back.reads_back statements source
