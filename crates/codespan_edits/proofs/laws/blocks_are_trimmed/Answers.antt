use Rattle.codespan_edits.proofs.TrimmedBlocks.{blocks-are-trimmed}
use Rattle.codespan_edits.proofs.laws.blocks_are_trimmed.Goals as goal

pub returns : goal.returns
returns c = blocks-are-trimmed
