use Rattle.codespan_core.proofs.Std.{◌≡◌, flat_map, map, refl, subst, sym, rules}
use Rattle.codespan_core.proofs.Std.{IsPermutation, IsPermutation-map, eqb-true, eq-eqb}
use Rattle.codespan_core.proofs.Std.{◌∙◌, false≢true, length}
use Rattle.std.specs.Prelude.{vec_len}
use Rattle.codespan_core.specs.Labels.{LaneMark}
use Rattle.std.proofs.lemmas.List.Sorted.{IsNonDecreasingBy-from_sort_by_key}
use Rattle.codespan_output.specs.Arguments.{lane_mark_view, single_label_views}
use Rattle.codespan_output.specs.FittedParts.{mark_spans}
use Rattle.codespan_fitting.specs.Fitting.{label_spans_of, span_view, span_views, spans_of}
use Rattle.codespan_fitting.proofs.SpanViews.{line-start, no-line-start, views-all}
use Rattle.codespan_fitting.proofs.spans.refill_spans.Goals as goal
use Rattle.codespan_fitting.proofs.spans.refill_spans.Goals.{then-is_empty+in_ok-push-2}
use Rattle.codespan_fitting.proofs.spans.refill_spans.Goals.{else-is_empty}

pub returns-clause-spans : goal.returns-clause-spans
returns-clause-spans c =
    let all = views-all
    (λ ms. flat_map
    (λ (m : LaneMark). mark_spans c.args.line.len c.args.line.leading m.multi_label)
    (map lane_mark_view ms))
    c.loop-lane_mark.lane_mark-index c.args.lane_marks.now
    (span_views c.loop-lane_mark.spans.items) _ refl c.loop-lane_mark-test.false
    c.loop-lane_mark.invariant in
    let size : vec_len c.loop-lane_mark.spans ≡ length c.loop-lane_mark.spans.items =
    c.loop-lane_mark.spans.ok.0 in
    let start : spans_of (label_spans_of c.args.label_span) c.args.line.len c.args.line.leading
    (single_label_views c.args.labels.now) (map lane_mark_view c.args.lane_marks.now)
    ≡ span_views c.if-is_empty.spans.items =
    elim c.if-is_empty.branch [
      | then-is_empty+in_ok-push-2 w ↦
          rw w.spans-is
          (line-start c.loop-lane_mark.spans.items w.push-then-is_empty.new.self.items _ _ all
          (sym size ∙ eqb-true (vec_len c.loop-lane_mark.spans) 0 (sym w.if-is_empty.ensures))
          w.in_ok-push-2.ensures.items refl)
      | else-is_empty w ↦
          rw w.spans-is
          (no-line-start c.loop-lane_mark.spans.items _ all
          (λ e. false≢true
          (w.if-is_empty.ensures ∙ eq-eqb (vec_len c.loop-lane_mark.spans) 0 (size ∙ e))))
    ] in
    subst (λ ss. IsPermutation ss (span_views c.sort_unstable_by_key.new.self.items)) (sym start)
    (IsPermutation-map span_view _ _ c.sort_unstable_by_key.ensures.permutation)

pub returns-clause-sorted : goal.returns-clause-sorted
returns-clause-sorted c =
    IsNonDecreasingBy-from_sort_by_key (λ s. s.first) _ c.sort_unstable_by_key.ensures.sorted
    (λ a r q k. search rules)
