use Rattle.codespan_core.proofs.Std.{◌<◌, ◌≤◌, ◌-◌, length, get_or, IsSortedWithin}
use Rattle.codespan_views.specs.Private.{IsLaneMarkOn, is_before, annotation_view}
use Rattle.codespan_views.proofs.annotation.order.lane_marks_end.Given as goal

-- the annotations so far are in order, and the last one is a lane mark in this lane
abbrev pub invariant-loop-end : goal.invariant-loop-end
invariant-loop-end g l = record {
  after : l.start < l.end;
  within : l.end ≤ length l.annotations;
  sorted : IsSortedWithin (λ x y. is_before (annotation_view x) (annotation_view y)) l.annotations
      l.start l.end;
  last : IsLaneMarkOn l.first.file_index l.first.line.index l.lane
      (annotation_view (get_or l.annotations (l.end - 1) l.first));
}

abbrev pub decreases-loop-end : goal.decreases-loop-end
decreases-loop-end g l = length l.annotations - l.end
