use Rattle.codespan_core.proofs.Std.{◌≤◌, ◌-◌, length, IsSortedWithin}
use Rattle.codespan_views.specs.Private.{is_before, annotation_view}
use Rattle.codespan_views.proofs.annotation.order.are_in_order.Given as goal

-- the annotations so far are in order
abbrev pub invariant-loop-end : goal.invariant-loop-end
invariant-loop-end g l = record {
  some : 1 ≤ l.end;
  sorted : IsSortedWithin (λ x y. is_before (annotation_view x) (annotation_view y)) l.annotations
      0
      l.end;
}

abbrev pub decreases-loop-end : goal.decreases-loop-end
decreases-loop-end g l = length l.annotations - l.end
