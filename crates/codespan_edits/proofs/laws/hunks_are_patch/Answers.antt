use Rattle.codespan_edits.proofs.HunkPatches.{hunks-are-patch}
use Rattle.codespan_edits.proofs.laws.hunks_are_patch.Goals as goal

pub returns : goal.returns
returns c = hunks-are-patch
