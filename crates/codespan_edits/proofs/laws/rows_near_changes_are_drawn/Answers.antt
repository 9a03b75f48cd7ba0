use Rattle.codespan_edits.proofs.DrawnExactly.{rows-near-changes-are-drawn}
use Rattle.codespan_edits.proofs.laws.rows_near_changes_are_drawn.Goals as goal

pub returns : goal.returns
returns c = rows-near-changes-are-drawn
