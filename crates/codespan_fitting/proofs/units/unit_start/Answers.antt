use Rattle.codespan_core.proofs.Std.{◌≡◌, ◌<◌, ap, subst, ◌∙◌, arith, chars, nil_from_length}
use Rattle.codespan_core.proofs.Std.{[], take}
use Rattle.std.proofs.lemmas.Str.{chars-nil}
use Rattle.std.specs.Iterator.Adapters.{rev_source}
use Rattle.std.specs.Str.Iter.{chars_rest}
use Rattle.codespan_output.specs.FittedParts.{cells_at_most}
use Rattle.codespan_fitting.proofs.TextSteps.{behind-step, chars-before, text-bytes}
use Rattle.codespan_fitting.proofs.UnitBounds.{IsInside, text-past}
use Rattle.codespan_fitting.proofs.UnitSteps.{IsBeforeJoined, before-more, start-first, start-found}
use Rattle.codespan_fitting.proofs.units.unit_start.Goals as goal

pub returns-then-byte-text : goal.returns-then-byte-text
returns-then-byte-text c =
    (text-past c.args.tab_width c.args.byte c.args.text.now c.utf8.text (omega arith)).0

pub loop-c-preserved : goal.loop-c-preserved
loop-c-preserved c =
    let i = c.loop-c.invariant in
    let step = c.in-Some.ensures.steps in
    let scalar = c.cells_at_most.ensures.scalar in
    let none : cells_at_most c.args.tab_width c.in-Some.c ≡ 0 =
    omega (arith, c.cells_at_most.ensures.value) in
    record {
      behind =
          rw c.len_utf8-start.ensures.value (behind-step _ _ _ _ _ i.behind scalar step);
      passed =
          before-more _ _ _ _ _ i.passed (chars-before _ _ _ i.behind.utf8 scalar step).1 none;
    }

pub returns-then-cells_at_most-ne0 : goal.returns-then-cells_at_most-ne0
returns-then-cells_at_most-ne0 c =
    let i = c.loop-c.invariant in
    let step = c.in-Some.ensures.steps in
    let scalar = c.cells_at_most.ensures.scalar in
    let next = chars_rest (rev_source c.next.new.self) in
    let before = chars-before _ _ _ i.behind.utf8 scalar step in
    let some : 0 < cells_at_most c.args.tab_width c.in-Some.c =
    omega (arith, c.cells_at_most.ensures.value, c.if-cells_at_most-ne0.true) in
    let inside : IsInside c.args.text.now c.args.byte c.ceil_char_boundary-start.result =
    record {
      utf8 = c.utf8.text;
      boundary = c.ceil_char_boundary-start.ensures.boundary;
      past = omega (arith, c.ceil_char_boundary-start.ensures.bound);
      nearest = c.ceil_char_boundary-start.ensures.nearest;
    } in
    omega (
      arith,
      start-found c.args.tab_width c.args.byte c.ceil_char_boundary-start.result c.in-Some.c
          c.args.text.now _ (chars next) inside i.passed before.1 some,
      text-bytes next before.0,
      (behind-step _ _ _ _ _ i.behind scalar step).length_is,
      c.len_utf8-start.ensures.value,
    )

pub returns : goal.returns
returns c =
    let i = c.loop-c.invariant in
    let e : chars (chars_rest (rev_source c.loop-c.c-iterator)) ≡ [] =
    ap chars (nil_from_length _ c.in-None.ensures.steps.0) ∙ chars-nil in
    let inside : IsInside c.args.text.now c.args.byte c.ceil_char_boundary-start.result =
    record {
      utf8 = c.utf8.text;
      boundary = c.ceil_char_boundary-start.ensures.boundary;
      past = omega (arith, c.ceil_char_boundary-start.ensures.bound);
      nearest = c.ceil_char_boundary-start.ensures.nearest;
    } in
    let first = start-first c.args.tab_width c.args.byte c.ceil_char_boundary-start.result
    c.args.text.now inside
    (subst
    (IsBeforeJoined c.args.tab_width
    (chars (take c.ceil_char_boundary-start.result c.args.text.now)))
    e i.passed) in
    omega (arith, first, i.behind.length_is, c.in-None.ensures.steps.0)
