use Rattle.codespan_core.proofs.Std.{arith, length, ◌<◌, refl, sym, nat_tests}
use Rattle.codespan_core.proofs.Put.{after_put-none, after_put-some, known-appends, known-keeps}
use Rattle.codespan_core.proofs.term.config.writing.forward_put.Goals.{else-count-eq0-via-then-count-eq0+else-not-is_empty}
use Rattle.codespan_core.proofs.term.config.writing.forward_put.Goals.{else-count-eq0-via-else-count-eq0}
use Rattle.codespan_core.proofs.term.config.writing.forward_put.Goals as goal

pub returns-then-not-is_empty-clause-took : goal.returns-then-not-is_empty-clause-took
returns-then-not-is_empty-clause-took g c = λ f.
    let some : 0 < length c.args.bytes.now = grind (arith, nat_tests) in (
      sym (after_put-none _ c.args.bytes.now c.in-Ok.count c.if-count-eq0.true some),
      λ known. known-appends _ _ _ known c.in-Ok.ensures.bytes,
    )

pub returns-else-count-eq0-clause-took : goal.returns-else-count-eq0-clause-took
returns-else-count-eq0-clause-took g c = λ f. (
  sym (after_put-some _ c.args.bytes.now c.in-Ok.count (elim c.else-count-eq0.branch [
    | else-count-eq0-via-then-count-eq0+else-not-is_empty w ↦ λ e. grind (arith, nat_tests)
    | else-count-eq0-via-else-count-eq0 w ↦ λ e. absurd (w.if-count-eq0.false e)
  ])),
  λ known. known-appends _ _ _ known c.in-Ok.ensures.bytes,
)

pub returns-in-Err-clause-took : goal.returns-in-Err-clause-took
returns-in-Err-clause-took g c = λ f.
    (refl, λ known. known-keeps _ _ known c.in-Err.ensures.bytes)
