use Rattle.std.proofs.Common.{ℕ, length, length-append, ap, arith}
use Rattle.std.proofs.lemmas.Str.{IsUtf8-past_char, length-encode}
use Rattle.codespan_lsp.proofs.UnitLemmas.{char_units_bounds, code_units-char, code_units-empty}
use Rattle.codespan_lsp.proofs.encoding.PositionEncoding.code_units.Goals as goal

pub loop-c-preserved : goal.loop-c-preserved
loop-c-preserved c =
    let i = c.loop-c.invariant in
    let step = c.in-Some.ensures.steps.0 in
    record {
      utf8 = IsUtf8-past_char _ _ _ i.utf8 step;
      fits = omega (
        arith,
        i.fits,
        ap length step,
        length-append {A = ℕ},
        length-encode,
        (char_units_bounds c.args.self c.in-Some.c).1,
        c.char_units-units.ensures,
      );
      so_far =
          omega (
            arith,
            i.so_far,
            code_units-char c.args.self _ _ _ i.utf8 step,
            c.char_units-units.ensures,
          );
    }

pub returns : goal.returns
returns c =
    let i = c.loop-c.invariant in
    let none = code_units-empty c.args.self _ c.in-None.ensures.steps.0.0 in
    record { value = omega (arith, none, i.so_far); bound = omega (arith, i.fits) }
