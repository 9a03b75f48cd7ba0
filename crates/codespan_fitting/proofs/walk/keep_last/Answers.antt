use Rattle.codespan_core.proofs.Std.{◌≡◌, ◌+◌, ◌-◌, ◌∙◌, ap, subst, arith}
use Rattle.codespan_core.proofs.Std.{chars, length, nil_from_length}
use Rattle.std.proofs.lemmas.Str.{chars-nil}
use Rattle.codespan_output.specs.FittedParts.{cells_at_most}
use Rattle.std.specs.Iterator.Adapters.{rev_source}
use Rattle.std.specs.Str.Iter.{chars_rest}
use Rattle.codespan_fitting.specs.Walks.{IsPassed, char_bytes}
use Rattle.codespan_fitting.proofs.LastUnits.{passed-all, passed-joined, passed-more, passed-none}
use Rattle.codespan_fitting.proofs.LastUnits.{passed-stop}
use Rattle.codespan_fitting.proofs.TextSteps.{behind-end, behind-step}
use Rattle.codespan_fitting.proofs.TextSteps.{chars-before, text-bytes}
use Rattle.codespan_fitting.proofs.walk.keep_last.Goals as goal

pub loop-c-init : goal.loop-c-init
loop-c-init c =
    let text = c.args.text.now in
    let all : chars_rest (rev_source c.into_iter-c-iterator.result) ≡ text = cc in
    let spent : 0 ≡ c.args.radius - c.args.radius = omega arith in
    rw all
    record {
      behind = behind-end text c.utf8.text;
      left = omega arith;
      passed =
          subst (λ n. IsPassed c.args.tab_width (chars text) (chars text) (length text) n) spent
          (subst (λ n. IsPassed c.args.tab_width (chars text) (chars text) n 0)
          (text-bytes text c.utf8.text) (passed-none c.args.tab_width (chars text)));
    }

pub returns-then-cells-left-clause-bytes : goal.returns-then-cells-left-clause-bytes
returns-then-cells-left-clause-bytes c =
    let i = c.loop-c.invariant in
    let e = (chars-before _ _ _ i.behind.utf8 c.cells_at_most-cells.ensures.scalar
    c.in-Some.ensures.steps).1 in
    (passed-stop _ c.args.radius _ _ _ _ _
    (subst (λ bs. IsPassed c.args.tab_width (chars c.args.text.now) bs c.loop-c.start
    (c.args.radius - c.loop-c.left)) e i.passed)
    (omega arith)
    (omega (arith, i.left, c.cells_at_most-cells.ensures.value, c.if-cells-left.true))).0

pub returns-then-cells-left-clause-cells : goal.returns-then-cells-left-clause-cells
returns-then-cells-left-clause-cells c =
    let i = c.loop-c.invariant in
    let e = (chars-before _ _ _ i.behind.utf8 c.cells_at_most-cells.ensures.scalar
    c.in-Some.ensures.steps).1 in
    (passed-stop _ c.args.radius _ _ _ _ _
    (subst (λ bs. IsPassed c.args.tab_width (chars c.args.text.now) bs c.loop-c.start
    (c.args.radius - c.loop-c.left)) e i.passed)
    (omega arith)
    (omega (arith, i.left, c.cells_at_most-cells.ensures.value, c.if-cells-left.true))).1

pub loop-c-preserved-then-cells-ne0 : goal.loop-c-preserved-then-cells-ne0
loop-c-preserved-then-cells-ne0 c =
    let i = c.loop-c.invariant in
    let step = c.in-Some.ensures.steps in
    let scalar = c.cells_at_most-cells.ensures.scalar in
    let next = chars_rest (rev_source c.next.new.self) in
    let cells = c.cells_at_most-cells.ensures.value in
    let b = behind-step _ _ _ _ _ i.behind scalar step in
    let e = (chars-before _ _ _ i.behind.utf8 scalar step).1 in
    let all = passed-more _ _ _ _ _ _
    (subst (λ bs. IsPassed c.args.tab_width (chars c.args.text.now) bs c.loop-c.start
    (c.args.radius - c.loop-c.left)) e i.passed)
    (omega (arith, cells, c.if-cells-ne0.true)) in
    let start : char_bytes (chars next) ≡ c.loop-c.at - c.len_utf8-at.result =
    omega (arith, text-bytes next b.utf8, b.length_is, c.len_utf8-at.ensures.value) in
    let spent : c.args.radius - c.loop-c.left + cells_at_most c.args.tab_width c.in-Some.c
    ≡ c.args.radius - (c.loop-c.left - c.cells_at_most-cells.result) =
    omega (arith, i.left, cells, c.if-cells-left.false) in
    record {
      behind = rw c.len_utf8-at.ensures.value b;
      left = omega (arith, i.left);
      passed =
          subst (λ n. IsPassed c.args.tab_width (chars c.args.text.now) (chars next) n
          (c.args.radius - (c.loop-c.left - c.cells_at_most-cells.result))) start
          (subst (λ n. IsPassed c.args.tab_width (chars c.args.text.now) (chars next)
          (char_bytes (chars next)) n) spent all);
    }

pub loop-c-preserved : goal.loop-c-preserved
loop-c-preserved c =
    let i = c.loop-c.invariant in
    let step = c.in-Some.ensures.steps in
    let scalar = c.cells_at_most-cells.ensures.scalar in
    let next = chars_rest (rev_source c.next.new.self) in
    let cells = c.cells_at_most-cells.ensures.value in
    let e = (chars-before _ _ _ i.behind.utf8 scalar step).1 in
    let all = passed-joined _ _ _ _ _ _
    (subst (λ bs. IsPassed c.args.tab_width (chars c.args.text.now) bs c.loop-c.start
    (c.args.radius - c.loop-c.left)) e i.passed)
    (omega (arith, cells, c.if-cells-ne0.false)) in
    let spent : c.args.radius - c.loop-c.left
    ≡ c.args.radius - (c.loop-c.left - c.cells_at_most-cells.result) =
    omega (arith, i.left, cells, c.if-cells-ne0.false) in
    record {
      behind = rw c.len_utf8-at.ensures.value (behind-step _ _ _ _ _ i.behind scalar step);
      left = omega (arith, i.left);
      passed =
          subst (λ n. IsPassed c.args.tab_width (chars c.args.text.now) (chars next)
          c.loop-c.start n) spent all;
    }

pub returns-clause-bytes : goal.returns-clause-bytes
returns-clause-bytes c =
    let e = ap chars (nil_from_length _ c.in-None.ensures.steps.0) ∙ chars-nil in
    (passed-all _ c.args.radius _ _ _
    (subst (λ bs. IsPassed c.args.tab_width (chars c.args.text.now) bs c.loop-c.start
    (c.args.radius - c.loop-c.left)) e c.loop-c.invariant.passed)
    (omega arith)).0

pub returns-clause-cells : goal.returns-clause-cells
returns-clause-cells c =
    let e = ap chars (nil_from_length _ c.in-None.ensures.steps.0) ∙ chars-nil in
    (passed-all _ c.args.radius _ _ _
    (subst (λ bs. IsPassed c.args.tab_width (chars c.args.text.now) bs c.loop-c.start
    (c.args.radius - c.loop-c.left)) e c.loop-c.invariant.passed)
    (omega arith)).1
