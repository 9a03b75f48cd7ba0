use Rattle.codespan_core.proofs.Std.{[], ◌≡◌, ◌∙◌, List, Option, Some, None, ap, length}
use Rattle.codespan_core.proofs.Std.{subst, sym, ℕ, nil_from_length, eqb-true}
use Rattle.std.proofs.lemmas.Result.{IfOk-weaker}
use Rattle.codespan_output.specs.FittedParts.{Part, chosen_parts, fits_at, greatest, pieces_of}
use Rattle.codespan_output.specs.FittedParts.{shortened}
use Rattle.codespan_fitting.specs.Cuts.{AreCutsOf, cuts_from}
use Rattle.codespan_fitting.specs.Gaps.{placed_gaps}
use Rattle.codespan_fitting.specs.Lines.{IsLeft, line_view}
use Rattle.codespan_fitting.specs.Parts.{gaps_from}
use Rattle.codespan_fitting.proofs.LineSteps.{chosen-units, empty-pieces, radius-none, radius-some}
use Rattle.codespan_fitting.proofs.fit.find_cuts.Goals as goal
use Rattle.codespan_fitting.proofs.fit.find_cuts.Goals.{After-refill_cuts, in-Some, in-None}

pub returns-then-is_empty-clause-cuts : goal.returns-then-is_empty-clause-cuts
returns-then-is_empty-clause-cuts c =
    let none : c.args.line.text.now ≡ [] =
    nil_from_length c.args.line.text.now
    (eqb-true (length c.args.line.text.now) 0 (sym c.if-is_empty.ensures)) in
    rw c.clear.ensures.items
    (ap (cuts_from 0 0)
    (sym (empty-pieces c.args.left c.args.tab_width (line_view 0 0 c.args.line) none)))

-- the gaps are those of the line
gaps : (c : After-refill_cuts)
    → placed_gaps c.args.tab_width c.args.line.text.now c.as_slice-gaps.result.now
    ≡ gaps_from 0 (chosen_parts c.args.left c.args.tab_width (line_view 0 0 c.args.line))
gaps c =
    ap (placed_gaps c.args.tab_width c.args.line.text.now) c.as_slice-gaps.ensures.value
    ∙ c.in_ok-for_gaps.ensures.gaps

-- the radius is the greatest one at which the line fits
radius : (c : After-refill_cuts) → c.match-for_gaps.radius
    ≡ greatest
    (fits_at c.args.left (chosen_parts c.args.left c.args.tab_width (line_view 0 0 c.args.line)))
    c.args.left
radius c =
    let parts = chosen_parts c.args.left c.args.tab_width (line_view 0 0 c.args.line) in
    let is = λ (rest : Option ℕ) (same : c.in_ok-for_gaps.for_gaps ≡ rest).
    subst (IsLeft c.args.left parts) same c.in_ok-for_gaps.ensures.rest in
    elim c.match-for_gaps.branch [
      | in-Some w ↦
          w.radius-is
          ∙ w.find_radius-radius.ensures
          ∙ radius-some c.args.tab_width c.args.left w.in-Some.for_gaps c.args.left
          c.args.line.text.now c.as_slice-gaps.result.now parts (gaps c)
          (is (Some w.in-Some.for_gaps) w.in-Some.is)
      | in-None w ↦
          w.radius-is
          ∙ radius-none c.args.tab_width c.args.left c.args.left c.args.line.text.now
          c.as_slice-gaps.result.now parts (gaps c) (is None w.in-None.is)
    ]

pub returns-clause-cuts : goal.returns-clause-cuts
returns-clause-cuts c =
    let at = (goal.at.returns-clause-cuts c).After-refill_cuts in
    let parts = chosen_parts c.args.left c.args.tab_width (line_view 0 0 c.args.line) in
    let items = c.refill_cuts.new.cuts.items in
    IfOk-weaker c.refill_cuts.result
    (λ _. (ps : List Part)
    → placed_gaps c.args.tab_width c.args.line.text.now c.as_slice-gaps.result.now
    ≡ gaps_from 0 ps → AreCutsOf (pieces_of c.match-for_gaps.radius ps) items)
    (λ _. AreCutsOf (shortened c.args.left c.args.tab_width (line_view 0 0 c.args.line)) items)
    (λ _ h. subst (λ r. AreCutsOf (pieces_of r parts) items) (radius at) (h parts (gaps at)))
    c.refill_cuts.ensures.cuts

pub returns-clause-between : goal.returns-clause-between
returns-clause-between c =
    let at = (goal.at.returns-clause-between c).After-refill_cuts in
    let parts = chosen_parts c.args.left c.args.tab_width (line_view 0 0 c.args.line) in
    IfOk-weaker c.refill_cuts.result _ _
    (λ _ h. h parts (gaps at)
    (chosen-units c.args.left c.args.tab_width (line_view 0 0 c.args.line)))
    c.refill_cuts.ensures.between
