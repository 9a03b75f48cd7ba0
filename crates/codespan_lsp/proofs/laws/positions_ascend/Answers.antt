use Rattle.codespan_lsp.proofs.LawLemmas.{positions-ascend}
use Rattle.codespan_lsp.proofs.laws.positions_ascend.Goals as goal

pub returns : goal.returns
returns c = positions-ascend
