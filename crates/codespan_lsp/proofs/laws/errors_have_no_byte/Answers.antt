use Rattle.codespan_lsp.proofs.LawLemmas.{errors-have-no-byte}
use Rattle.codespan_lsp.proofs.laws.errors_have_no_byte.Goals as goal

pub returns : goal.returns
returns c = errors-have-no-byte
