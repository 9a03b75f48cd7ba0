use Rattle.codespan_lsp.proofs.RangeLemmas.{label-ranges-are-ordered}
use Rattle.codespan_lsp.proofs.laws.label_ranges_are_ordered.Goals as goal

pub returns : goal.returns
returns c = label-ranges-are-ordered
