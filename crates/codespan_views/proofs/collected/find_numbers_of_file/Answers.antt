use Rattle.codespan_core.proofs.Std.{◌≡◌, List, [], ◌∷◌, ◌++◌, take, refl, sym}
use Rattle.codespan_core.proofs.Std.{common_steps, arith, All, err_from_is_err_and}
use Rattle.codespan_views.specs.Private.{IsLineOf, SnippetLine, model_of}
use Rattle.codespan_views.proofs.Lines.NumbersFound.{left-gap, left-no_gap, left-same, left-shown}
use Rattle.codespan_views.proofs.Lines.SnippetLineViews.{IsNextGroup, first-of, gap_of, later-are}
use Rattle.codespan_views.proofs.Lines.SnippetLineViews.{later-fewer, later_of, later_than}
use Rattle.codespan_views.proofs.Lines.SnippetLineViews.{lines_left, shown_of, views_of}
use Rattle.codespan_views.proofs.Lines.SnippetLineViews.{views_of-gap, views_of-hidden}
use Rattle.codespan_views.proofs.collected.find_numbers_of_file.Given.{Over}
use Rattle.codespan_views.proofs.collected.find_numbers_of_file.Goals.{After-count_on_line}
use Rattle.codespan_views.proofs.collected.find_numbers_of_file.Goals.{After-lines_between}
use Rattle.codespan_views.proofs.collected.find_numbers_of_file.Goals.{else-lines_between-eq1}
use Rattle.codespan_views.proofs.collected.find_numbers_of_file.Goals.{then-lines_between-eq1+in_ok-number+in_ok-push}
use Rattle.codespan_views.proofs.collected.find_numbers_of_file.Goals as goal

-- the annotations of a line are counted
next : (g : Over) (c : After-count_on_line g)
    → IsNextGroup c.loop-first.rest.now c.in-Some.first.now c.count_on_line.result
next g c = grind (arith, common_steps)

-- the lines of later ones are the file's
later_lines : (g : Over) (c : After-count_on_line g)
    → All (λ e. IsLineOf (model_of g.F.Files.database c.args.file.now) e.line)
    (later_than c.count_on_line.result c.loop-first.rest.now)
later_lines g c = grind (arith, common_steps, later-are)

pub loop-first-init : goal.loop-first-init
loop-first-init g c =
    record {
      hidden = [];
      within = omega arith;
      lines = c.requires.lines;
      left = record { numbers = refl; padding = refl; failed = refl };
    }

-- the shown line that is next, and those after it
abbrev after_gap : (g : Over) (c : After-lines_between g) → List SnippetLine
after_gap g c = shown_of c.loop-first.rest.now c.in-Some.first.now c.count_on_line.result
    ∷ later_of c.loop-first.rest.now c.in-Some.first.now c.count_on_line.result

-- they are left, after what is before that line
opens : (g : Over) (c : After-lines_between g)
    → IsNextGroup c.loop-first.rest.now c.in-Some.first.now c.count_on_line.result
    → let h = c.loop-first.invariant.hidden in
    lines_left h c.loop-first.rest.now c.loop-first.previous
    ≡ gap_of h c.loop-first.rest.now c.in-Some.first.now c.count_on_line.result
    c.lines_between.result ++ after_gap g c
opens g c group =
    views_of-gap group c.loop-first.previous c.loop-first.invariant.hidden
    c.lines_between.result (sym c.if-shows_line.ensures) c.lines_between.ensures.gap

pub returns-in_err-number-clause-failed : goal.returns-in_err-number-clause-failed
returns-in_err-number-clause-failed g c =
    grind (arith, common_steps, opens, next, err_from_is_err_and, left-same)

pub loop-first-preserved-after-lines_between-eq1 :
    goal.loop-first-preserved-after-lines_between-eq1
loop-first-preserved-after-lines_between-eq1 g c =
    let at = goal.at.loop-first-preserved-after-lines_between-eq1 g c in
    let group = next g at.After-count_on_line in
    let fewer = later-fewer group c.count_on_line.ensures.within in
    let left = left-same (opens g at.After-lines_between group) c.loop-first.invariant.left in
    record {
      hidden = [];
      within = omega (arith, fewer);
      lines = later_lines g at.After-count_on_line;
      left =
          left-shown _ (views_of (take c.count_on_line.result c.loop-first.rest.now)) _
          (first-of group (λ e. IsLineOf (model_of g.F.Files.database c.args.file.now) e.line)
          c.loop-first.invariant.lines).number_is c.fit-then-shows_line.ensures
          (elim c.if-lines_between-eq1.branch [
            | then-lines_between-eq1+in_ok-number+in_ok-push w ↦ rw (w.numbers-is, w.padding-is) (
                left-gap _ _ _ _ _ w.if-lines_between-eq1.true left
                w.in_ok-number.number w.in_ok-number.ensures.number w.in_ok-number.ensures.failed
                w.in_ok-push.ensures.items w.fit.ensures)
            | else-lines_between-eq1 w ↦ rw (w.numbers-is, w.padding-is) (
                left-no_gap _ _ _ c.lines_between.result w.if-lines_between-eq1.false left)
          ]);
    }

pub loop-first-preserved : goal.loop-first-preserved
loop-first-preserved g c =
    let at = (goal.at.loop-first-preserved g c).After-count_on_line in
    let group = next g at in
    let fewer = later-fewer group c.count_on_line.ensures.within in
    record {
      hidden = take c.count_on_line.result c.loop-first.rest.now;
      within = omega (arith, fewer);
      lines = later_lines g at;
      left =
          left-same
          (views_of-hidden group c.loop-first.previous c.loop-first.invariant.hidden
          (sym c.if-shows_line.ensures)) c.loop-first.invariant.left;
    }
