use Rattle.codespan_core.proofs.Std.{◌≡◌, ℕ, length, length-append, ap, sym, ◌∙◌}
use Rattle.codespan_core.proofs.Std.{arith, length-encode}
use Rattle.std.specs.Str.Iter.{chars_rest}
use Rattle.std.proofs.lemmas.Str.{IsUtf8-past_char}
use Rattle.codespan_output.proofs.Characters.Steps.{leading-more, leading-stop, leading-end}
use Rattle.codespan_output.proofs.rows.line.leading_whitespace.Goals as goal

pub loop-c-init : goal.loop-c-init
loop-c-init c =
    let all : chars_rest c.into_iter-c-iterator.result ≡ c.args.text.now = cc in
    rw all record { utf8 = c.utf8.text; room = omega arith; so_far = omega arith }

pub returns-then-not-is_whitespace : goal.returns-then-not-is_whitespace
returns-then-not-is_whitespace c =
    let i = c.loop-c.invariant in
    let a = c.is_whitespace.ensures in let b = c.if-not-is_whitespace.true in
    let none = leading-stop _ _ _ i.utf8 c.in-Some.ensures.steps.0 (sym a ∙ b) in
    omega (arith, none, i.so_far)

pub loop-c-preserved : goal.loop-c-preserved
loop-c-preserved c =
    let i = c.loop-c.invariant in
    let step = c.in-Some.ensures.steps.0 in
    let more = leading-more _ _ _ i.utf8 step
    (sym c.is_whitespace.ensures ∙ c.if-not-is_whitespace.false) in
    record {
      utf8 = IsUtf8-past_char _ _ _ i.utf8 step;
      room =
          omega (
            arith,
            i.room,
            ap length step,
            length-append {A = ℕ},
            length-encode,
            c.len_utf8-leading.ensures.value,
          );
      so_far = omega (arith, i.so_far, more, c.len_utf8-leading.ensures.value);
    }

pub returns : goal.returns
returns c =
    let i = c.loop-c.invariant in
    let none = leading-end _ c.in-None.ensures.steps.0.0 in
    omega (arith, none, i.so_far)
