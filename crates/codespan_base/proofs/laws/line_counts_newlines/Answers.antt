use Rattle.codespan_base.proofs.LineCounts as counts
use Rattle.codespan_base.proofs.laws.line_counts_newlines.Goals as goal

pub returns : goal.returns
returns c = λ name text. counts.line_counts name text
