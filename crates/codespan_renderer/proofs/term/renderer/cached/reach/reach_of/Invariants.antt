use Rattle.codespan_core.proofs.Std.{◌≡◌, [], drop, map, fold}
use Rattle.codespan_core.specs.Labels.{LabelModel, LaneMark}
use Rattle.codespan_output.specs.Arguments.{lane_mark_view, single_label_views}
use Rattle.codespan_renderer.specs.Private.{farther, farther_multi_label, reach_of}
use Rattle.codespan_renderer.proofs.term.renderer.cached.reach.reach_of.Given as goal

-- the labels that are left, and then the lane marks, are still to count
abbrev pub invariant-loop-label : goal.invariant-loop-label
invariant-loop-label l =
    fold (λ reach (x : LabelModel). farther (farther reach x.start) x.end) l.reach
    (single_label_views (drop l.label-index l.line.labels.now))
    ≡ reach_of (single_label_views l.line.labels.now) []

-- the lane marks that are left are
abbrev pub invariant-loop-lane_mark : goal.invariant-loop-lane_mark
invariant-loop-lane_mark l =
    fold (λ reach (m : LaneMark). farther_multi_label reach m.multi_label) l.reach
    (map lane_mark_view (drop l.lane_mark-index l.line.lanes.lane_marks.now))
    ≡ reach_of (single_label_views l.line.labels.now)
    (map lane_mark_view l.line.lanes.lane_marks.now)
