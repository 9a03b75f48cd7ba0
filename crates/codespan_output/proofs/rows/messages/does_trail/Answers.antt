use Rattle.codespan_core.proofs.Std.{arith, common_steps, nat_tests}
use Rattle.codespan_output.proofs.Messages.TrailingLabel.{trails_at}
use Rattle.codespan_output.proofs.rows.messages.does_trail.Goals.{then-not-is_empty}
use Rattle.codespan_output.proofs.rows.messages.does_trail.Goals.{else-not-is_empty}
use Rattle.codespan_output.proofs.rows.messages.does_trail.Goals as goal

pub returns-then-not-overlaps_any : goal.returns-then-not-overlaps_any
returns-then-not-overlaps_any c =
    let here = trails_at c.args.labels.now c.args.index _ _ c.requires c.is_empty.ensures in
    elim c.if-not-is_empty.branch [
      | then-not-is_empty w ↦ grind (arith, common_steps, nat_tests, here)
      | else-not-is_empty w ↦ cc
    ]

pub returns-else-not-overlaps_any : goal.returns-else-not-overlaps_any
returns-else-not-overlaps_any c =
    let here = trails_at c.args.labels.now c.args.index _ _ c.requires c.is_empty.ensures in
    elim c.if-not-is_empty.branch [
      | then-not-is_empty w ↦ grind (arith, common_steps, nat_tests, here)
      | else-not-is_empty w ↦ grind (arith, common_steps, nat_tests, here)
    ]
