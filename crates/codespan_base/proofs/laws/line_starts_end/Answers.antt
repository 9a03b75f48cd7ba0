use Rattle.codespan_base.proofs.LineStartsEnd as starts_end
use Rattle.codespan_base.proofs.laws.line_starts_end.Goals as goal

pub returns-clause-drained : goal.returns-clause-drained
returns-clause-drained c = λ starts items run. starts_end.drained starts items run
