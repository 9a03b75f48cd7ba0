use Rattle.codespan_edits.proofs.SameEdits.{same-edits-have-same-diff}
use Rattle.codespan_edits.proofs.laws.same_edits_have_same_diff.Goals as goal

pub returns : goal.returns
returns c = same-edits-have-same-diff
