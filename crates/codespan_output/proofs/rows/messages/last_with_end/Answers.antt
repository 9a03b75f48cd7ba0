use Rattle.codespan_core.proofs.Std.{arith}
use Rattle.codespan_output.proofs.Messages.TrailingLabel.{last_here, none_ends}
use Rattle.codespan_output.proofs.rows.messages.last_with_end.Goals as goal

pub returns-then-labels-index-clause-value : goal.returns-then-labels-index-clause-value
returns-then-labels-index-clause-value c =
    last_here c.args.end c.args.labels.now _ _ _ (omega arith) (omega arith) c.if-labels-index.true
    c.loop-index.invariant

pub returns-clause-value : goal.returns-clause-value
returns-clause-value c =
    none_ends c.args.end c.args.labels.now c.loop-index.index (omega arith) c.loop-index.invariant
