use Rattle.codespan_core.proofs.Std.{rules, ◌≡◌, is_lt, IsPermutation-trans, arith}
use Rattle.codespan_core.proofs.Std.{common_steps}
use Rattle.std.proofs.lemmas.List.Sorted.{answers_always}
use Rattle.codespan_views.specs.Private.{is_before, annotation_view}
use Rattle.codespan_views.proofs.Annotations.Order.{below_order}
use Rattle.codespan_output.proofs.Order.SortedLists.{sorted-map}
use Rattle.codespan_views.proofs.annotation.order.put_in_order.Goals as goal

pub returns-clause-permutation : goal.returns-clause-permutation
returns-clause-permutation g c = grind (arith, common_steps, IsPermutation-trans)

pub returns-clause-sorted : goal.returns-clause-sorted
returns-clause-sorted g c =
    sorted-map annotation_view is_before _
    (c.sort_unstable_by.ensures.sorted (λ x y. is_before (annotation_view x) (annotation_view y))
    (record {
      one_way =
          λ x y. below_order.one_way (annotation_view x) (annotation_view y);
      chain =
          λ x y z. below_order.chain (annotation_view x) (annotation_view y) (annotation_view z);
    })
    (answers_always _
    (λ a r. is_lt r ≡ is_before (annotation_view a.0.now) (annotation_view a.1.0.now)) _
    (λ f a r f' k. search rules)))
