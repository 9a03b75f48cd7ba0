use Rattle.codespan_laws.proofs.RowResets as resets
use Rattle.codespan_laws.proofs.laws.rows_end_reset.Goals as goal

pub returns : goal.returns
returns c = λ context row. resets.rows_end_reset context row
