use Rattle.codespan_core.proofs.Std.{◌≡◌, ◌++◌, map, drop}
use Rattle.codespan_output.specs.Arguments.{lane_mark_view}
use Rattle.codespan_views.specs.Private.{annotation_view, lane_marks_in}
use Rattle.codespan_views.proofs.snippet.line_buffers.fill_lane_marks.Given as goal

-- what is taken and what is left make the whole
abbrev pub invariant-loop-annotation : goal.invariant-loop-annotation
invariant-loop-annotation g l = map lane_mark_view l.lane_marks.items
    ++ lane_marks_in (map annotation_view (drop l.annotation-index l.annotations))
    ≡ lane_marks_in (map annotation_view l.annotations)
