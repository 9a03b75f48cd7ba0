use Rattle.std.proofs.Common.{◌≡◌, ℕ, ◌+◌, ◌-◌, ◌∷◌, length, length-append}
use Rattle.std.proofs.Common.{ap, ◌∙◌, arith}
use Rattle.std.specs.Prelude.{encode_utf8, encode_utf8_all}
use Rattle.std.specs.Str.{chars}
use Rattle.std.specs.Str.Iter.{chars_rest}
use Rattle.std.proofs.lemmas.List.Sums.{sum_by-cons}
use Rattle.std.proofs.lemmas.Str.{IsUtf8-past_char, length-encode}
use Rattle.codespan_lsp.specs.Units.{char_units, total_units, prefix_within}
use Rattle.codespan_lsp.proofs.UnitLemmas.{prefix_within-more, prefix_within-stop}
use Rattle.codespan_lsp.proofs.UnitLemmas.{prefix_within-empty}
use Rattle.codespan_lsp.proofs.encoding.PositionEncoding.prefix_within.Goals as goal

-- the next character does not fit
pub returns-then-more-max_units-clause-len : goal.returns-then-more-max_units-clause-len
returns-then-more-max_units-clause-len c =
    let i = c.loop-c.invariant in
    let stop = prefix_within-stop c.args.self (c.args.max_units - c.loop-c.units) _ _ _ i.utf8
    c.in-Some.ensures.steps.0
    (omega (arith, c.if-more-max_units.true, c.char_units-more.ensures)) in
    omega (arith, i.bytes, ap (λ cs. length (encode_utf8_all cs)) stop)

pub returns-then-more-max_units-clause-units : goal.returns-then-more-max_units-clause-units
returns-then-more-max_units-clause-units c =
    let i = c.loop-c.invariant in
    let stop = prefix_within-stop c.args.self (c.args.max_units - c.loop-c.units) _ _ _ i.utf8
    c.in-Some.ensures.steps.0
    (omega (arith, c.if-more-max_units.true, c.char_units-more.ensures)) in
    omega (arith, i.units, ap (total_units c.args.self) stop)

pub loop-c-preserved : goal.loop-c-preserved
loop-c-preserved c =
    let i = c.loop-c.invariant in
    let e = c.args.self in
    let left = c.args.max_units - c.loop-c.units in
    let rest = chars (chars_rest c.next.new.self) in
    let step = c.in-Some.ensures.steps.0 in
    let after =
    prefix_within e (c.args.max_units - (c.loop-c.units + c.char_units-more.result)) rest in
    let less : left - char_units e c.in-Some.c ≡ c.args.max_units
    - (c.loop-c.units + c.char_units-more.result) =
    omega (arith, c.char_units-more.ensures) in
    let more = prefix_within-more e left _ _ _ i.utf8 step
    (omega (arith, c.if-more-max_units.false, c.char_units-more.ensures))
    ∙ ap (λ k. c.in-Some.c ∷ prefix_within e k rest) less in
    record {
      utf8 = IsUtf8-past_char _ _ _ i.utf8 step;
      within = omega (arith, i.within, c.if-more-max_units.false);
      lengths =
          omega (
            arith,
            i.lengths,
            ap length step,
            length-append {A = ℕ},
            length-encode,
            c.len_utf8-len.ensures.value,
          );
      bytes = omega (
        arith,
        i.bytes,
        ap (λ cs. length (encode_utf8_all cs)) more,
        length-append (encode_utf8 c.in-Some.c) (encode_utf8_all after),
        length-encode c.in-Some.c,
        c.len_utf8-len.ensures.value,
      );
      units =
          omega (
            arith,
            i.units,
            ap (total_units e) more,
            sum_by-cons (char_units e) c.in-Some.c after,
            c.char_units-more.ensures,
          );
    }

-- no character is left
pub returns-clause-len : goal.returns-clause-len
returns-clause-len c =
    let none = prefix_within-empty c.args.self (c.args.max_units - c.loop-c.units) _
    c.in-None.ensures.steps.0.0 in
    omega (arith, c.loop-c.invariant.bytes, ap (λ cs. length (encode_utf8_all cs)) none)

pub returns-clause-units : goal.returns-clause-units
returns-clause-units c =
    let none = prefix_within-empty c.args.self (c.args.max_units - c.loop-c.units) _
    c.in-None.ensures.steps.0.0 in
    omega (arith, c.loop-c.invariant.units, ap (total_units c.args.self) none)
