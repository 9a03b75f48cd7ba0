use Rattle.codespan_edits.proofs.DiffLines.{diff-has-all-lines}
use Rattle.codespan_edits.proofs.laws.diff_has_all_lines.Goals as goal

pub returns : goal.returns
returns c = diff-has-all-lines
