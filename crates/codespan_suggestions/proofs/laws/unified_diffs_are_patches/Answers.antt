use Rattle.codespan_suggestions.proofs.PatchedTexts.{unified-diffs-are-patches}
use Rattle.codespan_suggestions.proofs.laws.unified_diffs_are_patches.Goals as goal

pub returns : goal.returns
returns g c = unified-diffs-are-patches
