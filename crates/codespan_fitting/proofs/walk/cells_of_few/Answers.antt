use Rattle.codespan_core.proofs.Std.{◌≡◌, ◌++◌, length, ap, sym, ◌∙◌, arith, chars}
use Rattle.codespan_core.proofs.Std.{encode_utf8, refl}
use Rattle.std.specs.Str.Iter.{chars_rest}
use Rattle.std.proofs.lemmas.Str.{IsUtf8-past_char}
use Rattle.codespan_output.specs.FittedParts.{unit_cells}
use Rattle.codespan_fitting.proofs.FewUnits.{begun-count, begun-end, begun-joined, begun-more}
use Rattle.codespan_fitting.proofs.FewUnits.{no-units}
use Rattle.codespan_fitting.proofs.UnitLemmas.{units-cells}
use Rattle.codespan_fitting.proofs.walk.cells_of_few.Goals as goal

pub returns-in-None-clause-few : goal.returns-in-None-clause-few
returns-in-None-clause-few c =
    sym (ap unit_cells (no-units c.args.tab_width c.args.text.now
    (ap length (sym c.chars-chars.ensures.rest) ∙ c.in-None.ensures.steps.0.0)))

pub returns-in-None-clause-at_most : goal.returns-in-None-clause-at_most
returns-in-None-clause-at_most c =
    omega (
      arith,
      ap length (no-units c.args.tab_width c.args.text.now
          (ap length (sym c.chars-chars.ensures.rest) ∙ c.in-None.ensures.steps.0.0)),
    )

pub loop-c-init : goal.loop-c-init
loop-c-init c =
    let rest = chars_rest c.into_iter-c-iterator.result in
    let same : chars_rest c.next.new.self ≡ chars_rest c.into_iter-c-iterator.result = cc in
    let e : c.args.text.now ≡ encode_utf8 c.in-Some.first ++ rest =
    sym c.chars-chars.ensures.rest ∙ c.in-Some.ensures.steps.0
    ∙ ap (λ rest. encode_utf8 c.in-Some.first ++ rest) same in
    let all = begun-count c.args.tab_width _ _ _ c.utf8.text e in
    record {
      utf8 = IsUtf8-past_char _ _ _ c.utf8.text e;
      some = omega arith;
      few = omega arith;
      bound = omega arith;
      units = refl;
      cells = omega (arith, all.1, c.cells_at_most-cells.ensures.value);
    }

pub returns-then-units-clause-more : goal.returns-then-units-clause-more
returns-then-units-clause-more c =
    let i = c.loop-c.invariant in
    let same : chars_rest c.next.new.self ≡ chars_rest c.into_iter-c-iterator.result = cc in
    let e : c.args.text.now
    ≡ encode_utf8 c.in-Some.first ++ chars_rest c.into_iter-c-iterator.result =
    sym c.chars-chars.ensures.rest ∙ c.in-Some.ensures.steps.0
    ∙ ap (λ rest. encode_utf8 c.in-Some.first ++ rest) same in
    let all = begun-count c.args.tab_width _ _ _ c.utf8.text e in
    let more = begun-more _ _ _ _ _ i.utf8 c.in-Some-c.ensures.steps.0
    c.cells_at_most-more.ensures.value c.if-more-ne0.true in
    omega (arith, all.0, more.0, i.units, c.if-units.true)

pub loop-c-preserved-then-more-ne0 : goal.loop-c-preserved-then-more-ne0
loop-c-preserved-then-more-ne0 c =
    let i = c.loop-c.invariant in
    let step = c.in-Some-c.ensures.steps.0 in
    let more = begun-more _ _ _ _ _ i.utf8 step c.cells_at_most-more.ensures.value
    c.if-more-ne0.true in
    record {
      utf8 = IsUtf8-past_char _ _ _ i.utf8 step;
      some = omega arith;
      few = omega (arith, i.few, c.if-units.false);
      bound = omega (arith, i.bound);
      units = omega (arith, more.0, i.units);
      cells = omega (arith, more.1, i.cells);
    }

pub loop-c-preserved : goal.loop-c-preserved
loop-c-preserved c =
    let i = c.loop-c.invariant in
    let step = c.in-Some-c.ensures.steps.0 in
    let more = begun-joined _ _ _ _ _ i.utf8 step c.cells_at_most-more.ensures.value
    c.if-more-ne0.false in
    record {
      utf8 = IsUtf8-past_char _ _ _ i.utf8 step;
      some = i.some;
      few = i.few;
      bound = i.bound;
      units = omega (arith, more.0, i.units);
      cells = omega (arith, more.1, i.cells);
    }

pub returns-clause-few : goal.returns-clause-few
returns-clause-few c =
    let i = c.loop-c.invariant in
    let none = begun-end c.args.tab_width _ c.in-None-c.ensures.steps.0.0 in
    omega (arith, none.1, i.cells, units-cells c.args.tab_width (chars c.args.text.now))

pub returns-clause-at_most : goal.returns-clause-at_most
returns-clause-at_most c =
    let i = c.loop-c.invariant in
    let same : chars_rest c.next.new.self ≡ chars_rest c.into_iter-c-iterator.result = cc in
    let e : c.args.text.now
    ≡ encode_utf8 c.in-Some.first ++ chars_rest c.into_iter-c-iterator.result =
    sym c.chars-chars.ensures.rest ∙ c.in-Some.ensures.steps.0
    ∙ ap (λ rest. encode_utf8 c.in-Some.first ++ rest) same in
    let all = begun-count c.args.tab_width _ _ _ c.utf8.text e in
    let none = begun-end c.args.tab_width _ c.in-None-c.ensures.steps.0.0 in
    omega (arith, all.0, none.0, i.units, i.few)
