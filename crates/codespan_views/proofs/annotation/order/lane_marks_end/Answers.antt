use Rattle.codespan_core.proofs.Std.{◌-◌, get_or, arith, get_or_default, common_steps}
use Rattle.codespan_views.specs.Private.{IsLaneMarkOn, is_before, annotation_view}
use Rattle.codespan_views.proofs.Annotations.Order.{mark_rises, sorted-join}
use Rattle.codespan_views.proofs.annotation.order.lane_marks_end.Goals as goal

pub loop-end-preserved : goal.loop-end-preserved
loop-end-preserved g c =
    let xs = c.args.annotations.now in
    let first = c.index-annotations-start.result in
    let last = get_or xs (c.loop-end.end - 1) first in
    let new = c.index-annotations-end.result in
    let mark : IsLaneMarkOn first.file_index first.line.index c.in-Some-lane_on.next
    (annotation_view new) =
    c.in-Some-lane_on.ensures in
    record {
      after = omega arith;
      within = omega arith;
      sorted =
          sorted-join (λ x y. is_before (annotation_view x) (annotation_view y)) xs _ _ _ last new
          (get_or_default xs (c.loop-end.end - 1) first last (omega arith))
          c.index-annotations-end.is (omega arith)
          (mark_rises _ _ _ _ _ (annotation_view new) c.loop-end.invariant.last mark
          c.if-lane-next.true)
          c.loop-end.invariant.sorted (λ k d from below. absurd (omega arith));
      last = grind (arith, common_steps, get_or_default);
    }
