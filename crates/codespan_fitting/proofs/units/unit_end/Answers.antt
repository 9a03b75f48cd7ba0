use Rattle.codespan_core.proofs.Std.{◌≡◌, ◌<◌, ap, sym, subst, ◌∙◌, arith, chars}
use Rattle.codespan_core.proofs.Std.{[], nil_from_length}
use Rattle.std.proofs.lemmas.Str.{chars-nil, chars_past_char}
use Rattle.std.specs.Str.Iter.{chars_rest}
use Rattle.codespan_output.specs.FittedParts.{cells_at_most}
use Rattle.codespan_fitting.specs.Walks.{BeginsUnit}
use Rattle.codespan_fitting.proofs.TextSteps.{ahead-step}
use Rattle.codespan_fitting.proofs.UnitBounds.{IsInside, text-past}
use Rattle.codespan_fitting.proofs.UnitSteps.{after-more, end-found}
use Rattle.codespan_fitting.proofs.units.unit_end.Goals as goal

pub returns-then-byte-text : goal.returns-then-byte-text
returns-then-byte-text c =
    (text-past c.args.tab_width c.args.byte c.args.text.now c.utf8.text (omega arith)).1

pub loop-c-preserved : goal.loop-c-preserved
loop-c-preserved c =
    let i = c.loop-c.invariant in
    let step = c.in-Some.ensures.steps.0 in
    let none : cells_at_most c.args.tab_width c.in-Some.c ≡ 0 =
    omega (arith, c.cells_at_most.ensures.value) in
    rw c.len_utf8-end.ensures.value
    record {
      ahead = ahead-step _ _ _ _ _ i.ahead step;
      passed =
          after-more _ _ _ _ _ _ _ i.passed (chars_past_char _ _ _ i.ahead.utf8 step) none;
    }

pub returns-then-cells_at_most-ne0 : goal.returns-then-cells_at_most-ne0
returns-then-cells_at_most-ne0 c =
    let i = c.loop-c.invariant in
    let some : 0 < cells_at_most c.args.tab_width c.in-Some.c =
    omega (arith, c.cells_at_most.ensures.value, c.if-cells_at_most-ne0.true) in
    let inside : IsInside c.args.text.now c.args.byte c.ceil_char_boundary-end.result =
    record {
      utf8 = c.utf8.text;
      boundary = c.ceil_char_boundary-end.ensures.boundary;
      past = omega (arith, c.ceil_char_boundary-end.ensures.bound);
      nearest = c.ceil_char_boundary-end.ensures.nearest;
    } in
    end-found c.args.tab_width c.args.byte c.ceil_char_boundary-end.result c.loop-c.end
    c.args.text.now _ inside i.passed
    (subst (BeginsUnit c.args.tab_width)
    (sym (chars_past_char _ _ _ i.ahead.utf8 c.in-Some.ensures.steps.0)) some)

pub returns : goal.returns
returns c =
    let e : chars (chars_rest c.loop-c.c-iterator) ≡ [] =
    ap chars (nil_from_length _ c.in-None.ensures.steps.0.0) ∙ chars-nil in
    let inside : IsInside c.args.text.now c.args.byte c.ceil_char_boundary-end.result =
    record {
      utf8 = c.utf8.text;
      boundary = c.ceil_char_boundary-end.ensures.boundary;
      past = omega (arith, c.ceil_char_boundary-end.ensures.bound);
      nearest = c.ceil_char_boundary-end.ensures.nearest;
    } in
    end-found c.args.tab_width c.args.byte c.ceil_char_boundary-end.result c.loop-c.end
    c.args.text.now _ inside c.loop-c.invariant.passed
    (subst (BeginsUnit c.args.tab_width) (sym e) tt)
