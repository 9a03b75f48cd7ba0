use Rattle.codespan_core.proofs.Std.{arith, sym, ap, ◌∙◌, ◌≡◌, ◌≤◌, ◌*◌}
use Rattle.codespan_core.proofs.Std.{◌+◌, ◌++◌, ℕ, List, length, take}
use Rattle.std.proofs.Common.{mul-le-mul_right}
use Rattle.std.proofs.lemmas.Slice.{take-put_mid}
use Rattle.codespan_core.proofs.Repeats.{repeat-push, add-one_mul}
use Rattle.codespan_core.proofs.term.config.writing.fill.Goals as goal

pub loop-i-preserved : goal.loop-i-preserved
loop-i-preserved c =
    let n = length c.args.bytes.now in
    let i = c.loop-i.invariant in
    let after = c.copy_from_slice.ensures.after in
    let step : (c.loop-i._i + 1) * n ≡ c.loop-i._i * n + n = add-one_mul c.loop-i._i n in
    let more : (c.loop-i._i + 1) * n ≤ c.args.copies * n = mul-le-mul_right n (omega arith) in
    record {
      end = omega arith;
      front =
          take-put_mid c.loop-i.end _ c.loop-i.run c.copy_from_slice.new.self _
          (omega (arith, ap length after)) (omega (arith, c.requires))
          ∙ ap (λ (l : List ℕ). take c.loop-i.end c.loop-i.run ++ l) after
          ∙ ap (λ (l : List ℕ). l ++ c.args.bytes.now) i.front
          ∙ sym (repeat-push c.loop-i._i c.args.bytes.now);
    }
