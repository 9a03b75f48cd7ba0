use Rattle.codespan_core.proofs.Std.{arith, refl, sym, ◌≡◌, ◌-◌, ◌<◌, length, take}
use Rattle.codespan_core.proofs.Std.{drop, [], append-nil, length-drop, take_all}
use Rattle.codespan_core.proofs.Std.{err_from_is_err_and, common_steps, nat_tests}
use Rattle.codespan_core.specs.{byte_stream}
use Rattle.codespan_core.proofs.Put.{put-with_written, put-none, put-failed, byte_stream-take}
use Rattle.codespan_core.proofs.Loops.{StillToWrite-start, StillToWrite-more, StillToWrite-failed}
use Rattle.codespan_core.proofs.Loops.{StillToWrite-end}
use Rattle.codespan_core.proofs.term.config.writing.put_all.Goals as goal

pub loop-rest-init : goal.loop-rest-init
loop-rest-init g c = StillToWrite-start _ _ _ refl

pub returns-in_err-n : goal.returns-in_err-n
returns-in_err-n g c =
    let p = err_from_is_err_and c.from_residual.result c.from_residual.ensures.1 in
    rw p.1
    (StillToWrite-failed _ _ _ _ _ (byte_stream c.loop-rest.rest.now) [] c.loop-rest.invariant
    (put-failed _ _ _ c.in_err-n.ensures.took) (sym (append-nil _)))

pub returns-then-n-eq0 : goal.returns-then-n-eq0
returns-then-n-eq0 g c =
    let some : 0 < length c.loop-rest.rest.now = grind (arith, nat_tests) in
    StillToWrite-failed _ _ _ _ _ (byte_stream c.loop-rest.rest.now) [] c.loop-rest.invariant
    (put-none _ _ _ _ c.if-n-eq0.true some c.in_ok-n.ensures.took) (sym (append-nil _))

pub loop-rest-preserved : goal.loop-rest-preserved
loop-rest-preserved g c =
    let e : take (length c.loop-rest.rest.now - c.in_ok-n.n) (drop c.in_ok-n.n c.loop-rest.rest.now)
    ≡ drop c.in_ok-n.n c.loop-rest.rest.now =
    take_all (length c.loop-rest.rest.now - c.in_ok-n.n) (drop c.in_ok-n.n c.loop-rest.rest.now)
    (omega (arith, length-drop c.in_ok-n.n c.loop-rest.rest.now)) in
    rw e
    (StillToWrite-more _ _ _ _ _ _ _ c.loop-rest.invariant
    (put-with_written _ _ _ _ c.if-n-eq0.false c.in_ok-n.ensures.took)
    (byte_stream-take c.in_ok-n.n c.loop-rest.rest.now))

pub returns : goal.returns
unfolding byte_stream
returns g c =
    StillToWrite-end _ _ _ _ c.loop-rest.invariant
    (let e : c.loop-rest.rest.now ≡ [] = grind (arith, common_steps) in rw e refl)
