use Rattle.codespan_core.proofs.Std.{arith}
use Rattle.codespan_core.proofs.PastLastLineFailures.{past_last_line_failure_late}
use Rattle.codespan_core.proofs.PastLastLineFailures.{past_last_line_failure_early}
use Rattle.codespan_core.proofs.files.simple.SimpleFile.check_line.Goals as goal

-- a line past the last fails with the index of the last
pub returns-then-line_index-count-clause-failed : goal.returns-then-line_index-count-clause-failed
returns-then-line_index-count-clause-failed g c = λ _.
    past_last_line_failure_late (g.Source.AsStr.text c.args.self.now.source) _ _
    c.line_count-count.ensures.value c.if-line_index-count.true

-- a line that exists does not fail
pub returns-clause-failed : goal.returns-clause-failed
returns-clause-failed g c =
    past_last_line_failure_early (g.Source.AsStr.text c.args.self.now.source) c.args.line_index
    (omega (arith, c.line_count-count.ensures.value))
