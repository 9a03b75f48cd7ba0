use Rattle.codespan_core.proofs.Std.{arith, sym, ◌∙◌}
use Rattle.codespan_output.proofs.Messages.TrailingLabel.{any_from}
use Rattle.codespan_output.proofs.rows.messages.has_any_message.Goals as goal

pub returns-then-not-is_empty : goal.returns-then-not-is_empty
returns-then-not-is_empty c =
    let here =
    any_from c.args.labels.now c.loop-label.label-index _ _ (omega arith) c.is_empty.ensures in
    sym (rw c.if-not-is_empty.true at here) ∙ c.loop-label.invariant

pub loop-label-preserved : goal.loop-label-preserved
loop-label-preserved c =
    let here =
    any_from c.args.labels.now c.loop-label.label-index _ _ (omega arith) c.is_empty.ensures in
    sym (rw c.if-not-is_empty.false at here) ∙ c.loop-label.invariant
