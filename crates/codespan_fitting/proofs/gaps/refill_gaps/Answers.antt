use Rattle.codespan_core.proofs.Std.{◌≡◌, ◌++◌, ap, arith, append_assoc, inl, inr}
use Rattle.codespan_core.proofs.Std.{IsCharBoundary, refl, subst, sym, ◌∙◌, take, take_all, ⊎_elim}
use Rattle.codespan_core.proofs.Std.{◌+◌, ◌<◌, None, max, rules, slice_range, true}
use Rattle.std.specs.Prelude.{MatchOption}
use Rattle.std.proofs.lemmas.Str.{IsCharBoundary-end}
use Rattle.codespan_output.specs.FittedParts.{unit_cells}
use Rattle.codespan_fitting.specs.Fitting.{span_views}
use Rattle.codespan_fitting.specs.Gaps.{placed_gaps}
use Rattle.codespan_fitting.specs.Parts.{gap_between, gaps_from}
use Rattle.codespan_fitting.proofs.GapLoop.{IsShown, added, shown-more, shown-rest, shown-skip}
use Rattle.codespan_fitting.proofs.GapLoop.{shown-start}
use Rattle.codespan_fitting.proofs.GapSpans.{max-cut, rest-end, rest-step, span-at}
use Rattle.codespan_fitting.proofs.GapSteps.{parts_after}
use Rattle.codespan_fitting.proofs.UnitCuts.{IsCut, cut-end_of, cut-start_of}
use Rattle.codespan_fitting.specs.Walks.{text_units}
use Rattle.codespan_fitting.proofs.gaps.refill_gaps.Goals as goal

pub loop-span-init : goal.loop-span-init
loop-span-init c =
    rw c.clear.ensures.items
    record {
      within = λ k d h. absurd (omega (arith, h));
      shown = shown-start c.args.tab_width c.args.text.now c.utf8.text;
      gaps = refl;
      rest = refl;
    }

pub loop-span-preserved-then-start-end : goal.loop-span-preserved-then-start-end
loop-span-preserved-then-start-end c =
    let i = c.loop-span.invariant in
    let at = span-at c.args.spans.now c.loop-span.span-index _ c.requires.sorted
    c.loop-span-test.true in
    record {
      within = i.within;
      shown =
          subst (λ ss. IsShown c.args.tab_width c.args.text.now ss c.loop-span.shown)
          (sym at.taken)
          (shown-skip c.args.tab_width c.args.text.now c.utf8.text _ _ _ _ at.split at.later
          _ _ _ c.unit_start-start.ensures c.unit_end-end.ensures i.shown
          (⊎_elim (λ low. inr low) (λ past. inl (omega (arith, past))) c.then-start-end.either));
      gaps = i.gaps;
      rest = i.rest;
    }

pub range-needed-requires-clause-start_boundary : goal.range-needed-requires-clause-start_boundary
range-needed-requires-clause-start_boundary c some =
    let i = c.loop-span.invariant in
    let start = subst (IsCut c.args.tab_width c.args.text.now) (sym c.unit_start-start.ensures)
    (cut-start_of c.args.tab_width c.args.text.now _ c.utf8.text) in
    subst (IsCharBoundary c.args.text.now) (sym c.max.ensures)
    (max-cut c.args.tab_width c.args.text.now c.loop-span.shown c.unit_start-start.result
    i.shown.cut start).boundary

pub range-needed-requires-clause-end_boundary : goal.range-needed-requires-clause-end_boundary
range-needed-requires-clause-end_boundary c =
    subst (IsCharBoundary c.args.text.now) (sym c.unit_end-end.ensures)
    (cut-end_of c.args.tab_width c.args.text.now _ c.utf8.text).boundary

pub loop-span-preserved : goal.loop-span-preserved
loop-span-preserved c =
    let i = c.loop-span.invariant in
    let tab = c.args.tab_width in
    let text = c.args.text.now in
    let at = span-at c.args.spans.now c.loop-span.span-index _ c.requires.sorted
    c.loop-span-test.true in
    let start = subst (IsCut tab text) (sym c.unit_start-start.ensures)
    (cut-start_of tab text _ c.utf8.text) in
    let add = added tab text c.utf8.text _ _ _ _ at.split at.later _ _ _
    c.unit_start-start.ensures c.unit_end-end.ensures i.shown c.if-start-end.false
    c.if-shown-end.false in
    let cells = unit_cells
    (text_units tab (slice_range text (max c.loop-span.shown c.unit_start-start.result)
    c.unit_end-end.result)) in
    let step : MatchOption c.loop-span.rest (c.and_then-rest.result ≡ None)
    (λ r. MatchOption c.and_then-rest.result (r < cells) (λ q. q + cells ≡ r)) = search rules in
    record {
      within =
          c.in_ok-push_gap.ensures.within text i.within i.shown.cut.boundary start.boundary;
      shown =
          subst (λ ss. IsShown tab text ss c.unit_end-end.result) (sym at.taken)
          (shown-more tab text c.utf8.text _ _ _ _ at.split at.later _ _ _
          c.unit_start-start.ensures c.unit_end-end.ensures i.shown c.if-shown-end.false);
      gaps =
          ap (λ gs. gs ++ gaps_from c.unit_end-end.result
          (parts_after tab text (span_views c.args.spans.now) c.unit_end-end.result))
          (c.in_ok-push_gap.ensures.placed tab text)
          ∙ append_assoc (placed_gaps tab text c.loop-span.gaps.items)
          (gap_between tab text c.loop-span.shown c.unit_start-start.result true)
          (gaps_from c.unit_end-end.result
          (parts_after tab text (span_views c.args.spans.now) c.unit_end-end.result))
          ∙ ap (λ gs. placed_gaps tab text c.loop-span.gaps.items ++ gs) (sym add.gaps)
          ∙ i.gaps;
      rest = rest-step c.loop-span.rest c.and_then-rest.result c.args.left _ _ _ cells add.cells
          i.rest step;
    }

pub returns : goal.returns
returns c =
    let i = c.loop-span.invariant in
    let all : span_views (take c.loop-span.span-index c.args.spans.now)
    ≡ span_views c.args.spans.now =
    ap span_views (take_all c.loop-span.span-index c.args.spans.now c.loop-span-test.false) in
    let rest = shown-rest c.args.tab_width c.args.text.now (span_views c.args.spans.now)
    c.loop-span.shown c.utf8.text
    (subst (λ ss. IsShown c.args.tab_width c.args.text.now ss c.loop-span.shown) all i.shown) in
    record {
      within =
          c.in_ok-push_gap-2.ensures.within c.args.text.now i.within i.shown.cut.boundary
          (IsCharBoundary-end c.args.text.now);
      gaps =
          c.in_ok-push_gap-2.ensures.placed c.args.tab_width c.args.text.now
          ∙ ap (λ gs. placed_gaps c.args.tab_width c.args.text.now c.loop-span.gaps.items ++ gs)
          (sym rest.gaps)
          ∙ i.gaps;
      rest = rest-end c.loop-span.rest c.args.left _ _ rest.cells i.rest;
    }
