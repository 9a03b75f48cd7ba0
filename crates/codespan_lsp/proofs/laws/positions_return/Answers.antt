use Rattle.codespan_lsp.proofs.LawLemmas.{positions-return}
use Rattle.codespan_lsp.proofs.laws.positions_return.Goals as goal

pub returns : goal.returns
returns c = positions-return
