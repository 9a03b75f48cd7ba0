use Rattle.codespan_core.proofs.Std.{◌≡◌, ◌∙◌, IfOk, None, Option, Some, ap, false, subst}
use Rattle.codespan_core.proofs.Std.{sym, nat_le, ℕ, List, Bool}
use Rattle.std.specs.Prelude.{MatchOption}
use Rattle.codespan_output.specs.FittedParts.{Part, fits_at, parts_of, whole_span}
use Rattle.codespan_fitting.specs.declared.gap.Gap.{Gap}
use Rattle.codespan_fitting.specs.Gaps.{gap_cells, placed_gaps}
use Rattle.codespan_fitting.specs.Lines.{IsLeft, line_view}
use Rattle.codespan_fitting.specs.Parts.{gaps_from}
use Rattle.codespan_fitting.proofs.LineParts.{line-fits, line-past}
use Rattle.codespan_fitting.proofs.LineSteps.{chosen-ends, chosen-whole}
use Rattle.codespan_fitting.proofs.fit.choose_gaps.Goals.{After-gaps_fit}
use Rattle.codespan_fitting.proofs.fit.choose_gaps.Goals as goal

-- whether the gaps fit what is left for them, is whether the parts fit
decided : (tab left : ℕ) (text : List ℕ) (gaps : List Gap) (parts : List Part)
    (rest : Option ℕ) (b : Bool) → placed_gaps tab text gaps ≡ gaps_from 0 parts
    → IsLeft left parts rest
    → MatchOption rest (b ≡ false) (λ n. b ≡ nat_le (gap_cells 0 tab text gaps) n)
    → b ≡ fits_at left parts 0
decided tab left text gaps parts None b are more is =
    is ∙ sym (line-past tab text parts gaps are left 0 more)
decided tab left text gaps parts (Some rest) b are sum is =
    is ∙ sym (line-fits tab text parts gaps are left rest 0 sum)

whole : (c : After-gaps_fit) → c.gaps_fit.result
    ≡ fits_at c.args.left (parts_of whole_span c.args.tab_width (line_view 0 0 c.args.line)) 0
whole c =
    decided c.args.tab_width c.args.left c.args.line.text.now c.find_gaps.new.buffers.gaps.items
    (parts_of whole_span c.args.tab_width (line_view 0 0 c.args.line)) c.in_ok-for_gaps.for_gaps
    c.gaps_fit.result c.in_ok-for_gaps.ensures.gaps c.in_ok-for_gaps.ensures.rest
    c.gaps_fit.ensures

pub returns-then-gaps_fit-clause-gaps : goal.returns-then-gaps_fit-clause-gaps
returns-then-gaps_fit-clause-gaps c =
    let at = (goal.at.returns-then-gaps_fit-clause-gaps c).After-gaps_fit in
    let chosen = chosen-whole c.args.left c.args.tab_width (line_view 0 0 c.args.line)
    (sym (whole at) ∙ c.if-gaps_fit.true) in
    c.in_ok-for_gaps.ensures.gaps ∙ ap (gaps_from 0) (sym chosen)

pub returns-then-gaps_fit-clause-rest : goal.returns-then-gaps_fit-clause-rest
returns-then-gaps_fit-clause-rest c =
    let at = (goal.at.returns-then-gaps_fit-clause-rest c).After-gaps_fit in
    let chosen = chosen-whole c.args.left c.args.tab_width (line_view 0 0 c.args.line)
    (sym (whole at) ∙ c.if-gaps_fit.true) in
    subst (λ ps. IsLeft c.args.left ps c.in_ok-for_gaps.for_gaps) (sym chosen)
    c.in_ok-for_gaps.ensures.rest

pub returns-clause-gaps : goal.returns-clause-gaps
returns-clause-gaps c =
    let at = (goal.at.returns-clause-gaps c).After-gaps_fit in
    let chosen = chosen-ends c.args.left c.args.tab_width (line_view 0 0 c.args.line)
    (sym (whole at) ∙ c.if-gaps_fit.false) in
    subst
    (λ ps. IfOk c.find_gaps-2.result (λ _. placed_gaps c.args.tab_width c.args.line.text.now
    c.find_gaps-2.new.buffers.gaps.items ≡ gaps_from 0 ps))
    (sym chosen) c.find_gaps-2.ensures.gaps

pub returns-clause-rest : goal.returns-clause-rest
returns-clause-rest c =
    let at = (goal.at.returns-clause-rest c).After-gaps_fit in
    let chosen = chosen-ends c.args.left c.args.tab_width (line_view 0 0 c.args.line)
    (sym (whole at) ∙ c.if-gaps_fit.false) in
    subst (λ ps. IfOk c.find_gaps-2.result (IsLeft c.args.left ps)) (sym chosen)
    c.find_gaps-2.ensures.rest
