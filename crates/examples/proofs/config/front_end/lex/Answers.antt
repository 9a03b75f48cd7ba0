use Rattle.std.proofs.Common.{◌≡◌, ◌+◌, ◌<◌, ◌≤◌, ℕ, All, length, ap, arith}
use Rattle.std.proofs.Common.{subst, sym, ◌∙◌}
use Rattle.std.proofs.lemmas.Iterator.Adapters.{YieldsList-from_bytes}
use Rattle.std.proofs.lemmas.Iterator.Consumers.{YieldsList-from_enumerate, YieldsList-turn}
use Rattle.std.proofs.lemmas.List.Elements.{All-push}
use Rattle.std.proofs.lemmas.List.FromFn.{get_or-enumerate_from, length-enumerate_from}
use Rattle.examples.specs.declared.config.front_end.Token.{Token}
use Rattle.examples.proofs.config.front_end.lex.Goals.{in-Some-take+in_ok-push, in_default}
use Rattle.examples.proofs.config.front_end.lex.Goals as goal

-- a token that ends before the byte, if there is one, and then the token of the byte
pub loop-index-preserved-in-loop-index : goal.loop-index-preserved-in-loop-index
loop-index-preserved-in-loop-index c =
    let text = c.args.text.now in
    let Inside = λ (token : Token). token.end ≤ length text in
    let count = length c.loop-index.yielded in
    let turn = YieldsList-turn (YieldsList-from_enumerate (YieldsList-from_bytes text cc) cc)
    c.loop-index.yielded _ c.loop-index.yielded_by _ _ _ c.in-Some.is c.next.ensures.steps in
    let inside : count < length text = omega (arith, turn.0, length-enumerate_from 0 text) in
    let at : c.in-Some.index ≡ 0 + count = ap (λ (p : ℕ × ℕ). p.0)
    (turn.1 ∙ get_or-enumerate_from 0 text count (c.in-Some.index, c.in-Some.byte) inside) in
    let within : c.in-Some.index < length text = omega (arith, inside, at) in
    let ended : All Inside c.match-take.tokens.items = elim c.match-take.branch [
      | in-Some-take+in_ok-push w ↦ rw (w.tokens-is, w.in_ok-push.ensures.items)
          (All-push Inside c.loop-index.tokens.items _ c.loop-index.invariant
          (omega (arith, within)))
      | in_default w ↦ rw w.tokens-is c.loop-index.invariant
    ] in
    subst (All Inside) (sym c.in_ok-push-2.ensures.items)
    (All-push Inside c.match-take.tokens.items _ ended (omega (arith, within)))
