use Rattle.codespan_edits.proofs.HunkPatches.{changed-rows-are-drawn}
use Rattle.codespan_edits.proofs.laws.changed_rows_are_drawn.Goals as goal

pub returns : goal.returns
returns c = changed-rows-are-drawn
