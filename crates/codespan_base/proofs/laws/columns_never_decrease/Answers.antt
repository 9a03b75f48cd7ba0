use Rattle.codespan_base.proofs.LineCuts as cuts
use Rattle.codespan_base.proofs.laws.columns_never_decrease.Goals as goal

pub returns : goal.returns
returns c = cuts.columns_never_decrease
