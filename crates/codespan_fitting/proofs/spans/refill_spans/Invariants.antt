use Rattle.codespan_core.proofs.Std.{◌≡◌, ◌++◌, drop, flat_map, map}
use Rattle.codespan_core.specs.Labels.{LaneMark}
use Rattle.codespan_output.specs.Arguments.{lane_mark_view, single_label_views}
use Rattle.codespan_output.specs.FittedParts.{mark_spans}
use Rattle.codespan_fitting.specs.Fitting.{label_spans_of, span_views}
use Rattle.codespan_fitting.proofs.spans.refill_spans.Given as goal

-- the spans of the labels that are left are still to come
abbrev pub invariant-loop-label : goal.invariant-loop-label
invariant-loop-label l =
    span_views l.spans.items
    ++ flat_map (label_spans_of l.label_span l.line.len)
    (single_label_views (drop l.label-index l.labels))
    ≡ flat_map (label_spans_of l.label_span l.line.len) (single_label_views l.labels)

-- those of the lane marks that are left are
abbrev pub invariant-loop-lane_mark : goal.invariant-loop-lane_mark
invariant-loop-lane_mark l =
    span_views l.spans.items
    ++ flat_map (λ (m : LaneMark). mark_spans l.line.len l.line.leading m.multi_label)
    (map lane_mark_view (drop l.lane_mark-index l.lane_marks))
    ≡ flat_map (label_spans_of l.fn.label_span l.line.len) (single_label_views l.labels)
    ++ flat_map (λ (m : LaneMark). mark_spans l.line.len l.line.leading m.multi_label)
    (map lane_mark_view l.lane_marks)
