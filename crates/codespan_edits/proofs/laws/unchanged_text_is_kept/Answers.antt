use Rattle.codespan_edits.proofs.TrimmedBlocks.{unchanged-text-is-kept}
use Rattle.codespan_edits.proofs.laws.unchanged_text_is_kept.Goals as goal

pub returns : goal.returns
returns c = unchanged-text-is-kept
