use Rattle.codespan_edits.proofs.PatchLemmas.{shown-rows-are-patch}
use Rattle.codespan_edits.proofs.laws.shown_rows_are_patch.Goals as goal

pub returns : goal.returns
returns c = shown-rows-are-patch
