use Rattle.codespan_edits.proofs.PatchesBack.{hunks-are-patch-back}
use Rattle.codespan_edits.proofs.laws.hunks_are_patch_back.Goals as goal

pub returns : goal.returns
returns c = hunks-are-patch-back
