use Rattle.codespan_edits.proofs.Overlaps.{overlaps-are-found}
use Rattle.codespan_edits.proofs.laws.overlaps_are_found.Goals as goal

pub returns : goal.returns
returns c = overlaps-are-found
