use Rattle.codespan_core.proofs.Std.{◌∙◌, sym, arith}
use Rattle.codespan_views.specs.Private.{is_before, annotation_view}
use Rattle.codespan_output.proofs.Order.SortedLists.{sorted-map}
use Rattle.codespan_views.proofs.Annotations.Order.{sorted-join}
use Rattle.codespan_views.proofs.annotation.order.are_in_order.Goals as goal

pub loop-end-preserved : goal.loop-end-preserved
loop-end-preserved g c = record {
  some = omega arith;
  sorted =
      sorted-join (λ x y. is_before (annotation_view x) (annotation_view y)) _ 0 c.loop-end.end _
      c.index-annotations-end-in-loop-end.result c.index-annotations-end.result
      c.index-annotations-end-in-loop-end.is c.index-annotations-end.is (omega arith)
      (sym c.is_before.ensures ∙ c.if-is_before.false) c.loop-end.invariant.sorted
      c.lane_marks_end-end.ensures.sorted;
}

pub returns : goal.returns
returns g c = λ _.
    sorted-map annotation_view is_before _
    (λ k d from below. c.loop-end.invariant.sorted k d from (omega (arith, c.loop-end-test.false)))
