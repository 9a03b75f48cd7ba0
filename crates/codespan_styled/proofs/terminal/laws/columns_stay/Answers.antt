use Rattle.codespan_styled.proofs.UnsafeCells.{columns_stay}
use Rattle.codespan_styled.proofs.terminal.laws.columns_stay.Goals as goal

pub returns : goal.returns
returns c = columns_stay
