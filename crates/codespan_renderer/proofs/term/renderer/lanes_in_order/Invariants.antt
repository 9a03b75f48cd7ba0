use Rattle.codespan_core.proofs.Std.{◌≡◌, drop, map}
use Rattle.codespan_output.specs.Arguments.{lanes_in_order, lane_mark_view, ascend_from}
use Rattle.codespan_renderer.proofs.term.renderer.lanes_in_order.Given as goal

-- the remaining lane marks decide
abbrev pub invariant-loop-lane : goal.invariant-loop-lane
invariant-loop-lane l =
    ascend_from l.num_multi_labels l.least (map lane_mark_view (drop l.lane-index l.multi_labels))
    ≡ lanes_in_order l.num_multi_labels l.multi_labels
