use Rattle.codespan_core.proofs.Std.{[], ◌∷◌, ◌≡◌, ◌++◌, ◌+◌, ◌-◌, ◌∙◌, List, ap, drop}
use Rattle.codespan_core.proofs.Std.{drop_all, drop_more, le-ltb, lt-ltb, map, map-append, subst}
use Rattle.codespan_core.proofs.Std.{sym, arith, refl}
use Rattle.codespan_output.specs.FittedParts.{Part, part_pieces, pieces_of}
use Rattle.codespan_fitting.specs.declared.gap.Gap.{Gap}
use Rattle.codespan_fitting.specs.Cuts.{AreBetweenChars, AreCutsOf, CutModel, cut_view}
use Rattle.codespan_fitting.specs.Gaps.{gap_part, placed_gaps}
use Rattle.codespan_fitting.specs.LeftOut.{dot_ranges}
use Rattle.codespan_fitting.proofs.CutLemmas.GapSteps.{IsCut, cut-end, cut-more, cut-none}
use Rattle.codespan_fitting.proofs.CutLemmas.GapSteps.{cut-start}
use Rattle.codespan_fitting.proofs.CutLemmas.PieceUnits.{pieces-between, pieces-units}
use Rattle.codespan_fitting.specs.Parts.{gaps_from}
use Rattle.codespan_fitting.proofs.cuts.refill_cuts.Goals.{After-loop-gap}
use Rattle.codespan_fitting.proofs.cuts.refill_cuts.Goals as goal
use Rattle.codespan_fitting.proofs.cuts.refill_cuts.Goals.{else-left_out}
use Rattle.codespan_fitting.proofs.cuts.refill_cuts.Goals.{then-left_out+in_ok-push}

pub loop-gap-init : goal.loop-gap-init
loop-gap-init c = λ parts are.
    rw c.clear.ensures.items
    (cut-start c.args.tab_width c.args.radius c.args.text.now parts c.args.gaps.now are)

pub loop-gap-preserved : goal.loop-gap-preserved
loop-gap-preserved c = λ parts are.
    let tab = c.args.tab_width in
    let r = c.args.radius in
    let text = c.args.text.now in
    let gap = c.gap-item.result in
    let rest = drop (c.loop-gap.gap-index + 1) c.args.gaps.now in
    let done = map cut_view c.loop-gap.cuts.items in
    let start = c.walk_gap-left_out.result.start in
    let end = c.walk_gap-left_out.result.end in
    let split : drop c.loop-gap.gap-index c.args.gaps.now ≡ gap ∷ rest =
    drop_more c.args.gaps.now c.loop-gap.gap-index gap c.loop-gap-test.true
    ∙ ap (λ (g : Gap). g ∷ rest) (sym c.gap-item.is) in
    let at : IsCut tab r text parts done c.loop-gap.removed (gap ∷ rest) =
    subst (λ (gs : List Gap). IsCut tab r text parts done c.loop-gap.removed gs) split
    (c.loop-gap.invariant parts are) in
    elim c.if-left_out.branch [
      | then-left_out+in_ok-push w ↦
          let some = w.if-left_out.true in
          let range : dot_ranges 0 (part_pieces r (gap_part tab text gap)) ≡ (start, end) ∷ [] =
          rw (lt-ltb start end some) at (sym c.walk_gap-left_out.ensures.ranges) in
          let cut : CutModel = record {
            start = gap.start + start;
            end = gap.start + end;
            dots = w.saturating_sub-dots.result;
          } in
          let is : cut ≡ record {
            start = gap.start + start;
            end = gap.start + end;
            dots = gap.start + start - c.loop-gap.removed;
          } = rw w.saturating_sub-dots.ensures refl in
          let next = cut-more tab r text parts done c.loop-gap.removed gap rest start end cut at
          range (c.walk_gap-left_out.ensures.longer some) is in
          let all : map cut_view w.push.new.self.items ≡ done ++ cut ∷ [] =
          ap (map cut_view) w.in_ok-push.ensures.items
          ∙ map-append cut_view c.loop-gap.cuts.items _ in
          rw (w.cuts-is, w.removed-is)
          (subst (λ cs. IsCut tab r text parts cs (cut.end - (cut.dots + 3)) rest) (sym all) next)
      | else-left_out w ↦
          let none : dot_ranges 0 (part_pieces r (gap_part tab text gap)) ≡ [] =
          rw (le-ltb start end w.if-left_out.false) at (sym c.walk_gap-left_out.ensures.ranges) in
          rw (w.cuts-is, w.removed-is)
          (cut-none tab r text parts done c.loop-gap.removed gap rest at none)
    ]

-- after the loop the cuts are those of the pieces
all : (c : After-loop-gap) (parts : List Part)
    → placed_gaps c.args.tab_width c.args.text.now c.args.gaps.now ≡ gaps_from 0 parts
    → AreCutsOf (pieces_of c.args.radius parts) c.loop-gap.cuts.items
all c parts are =
    let none : drop c.loop-gap.gap-index c.args.gaps.now ≡ [] =
    drop_all c.loop-gap.gap-index c.args.gaps.now (omega arith) in
    cut-end c.args.tab_width c.args.radius c.args.text.now parts
    (map cut_view c.loop-gap.cuts.items) c.loop-gap.removed
    (subst (λ (gs : List Gap). IsCut c.args.tab_width c.args.radius c.args.text.now parts
    (map cut_view c.loop-gap.cuts.items) c.loop-gap.removed gs) none
    (c.loop-gap.invariant parts are))

pub returns-clause-cuts : goal.returns-clause-cuts
returns-clause-cuts c = all (goal.at.returns-clause-cuts c).After-loop-gap

pub returns-clause-between : goal.returns-clause-between
returns-clause-between c = λ parts are units.
    let cuts = all (goal.at.returns-clause-between c).After-loop-gap parts are in
    subst (λ cs. AreBetweenChars c.args.text.now 0 cs) (sym cuts)
    (pieces-between c.args.tab_width c.args.text.now c.utf8.text 0 0 0
    (pieces_of c.args.radius parts)
    (sym units ∙ sym (pieces-units c.args.radius parts)) refl)
