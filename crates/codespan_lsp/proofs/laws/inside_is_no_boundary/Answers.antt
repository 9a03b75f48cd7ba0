use Rattle.codespan_lsp.proofs.LawLemmas.{inside-is-no-boundary}
use Rattle.codespan_lsp.proofs.laws.inside_is_no_boundary.Goals as goal

pub returns : goal.returns
returns c = inside-is-no-boundary
