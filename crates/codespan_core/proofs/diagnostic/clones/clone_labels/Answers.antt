use Rattle.codespan_core.proofs.Std.{refl, arith, err_from_is_err_and}
use Rattle.codespan_core.specs.{label_view}
use Rattle.codespan_core.proofs.TextLemmas.{viewed_more}
use Rattle.codespan_core.proofs.diagnostic.clones.clone_labels.Goals as goal

-- the error is that of a failed allocation
pub returns-in_err-push-clause-failed : goal.returns-in_err-push-clause-failed
returns-in_err-push-clause-failed g c =
    let p = err_from_is_err_and c.from_residual-in_err-push.result
    c.from_residual-in_err-push.ensures.1 in
    rw (p.1, p.2) refl

-- one label more is copied
pub loop-label-preserved : goal.loop-label-preserved
loop-label-preserved g c =
    viewed_more label_view c.args.labels.now.items c.deref-label-items.result.now _ _
    c.loop-label.label-index c.label-item.result _ c.deref-label-items.ensures.value
    (omega (arith, c.loop-label-test.true)) c.label-item.is c.loop-label.invariant
    c.in_ok-push.ensures.items c.in_ok-clone.ensures.same
