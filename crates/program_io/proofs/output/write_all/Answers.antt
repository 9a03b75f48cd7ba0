use Rattle.codespan_core.proofs.Std.{[], ◌++◌, take, refl}
use Rattle.std.proofs.KnownBytes.{Appends-kept, Appends-nil, Appends-trans}
use Rattle.program_io.proofs.Received.{moved_range, prefix_received}
use Rattle.program_io.proofs.output.write_all.Goals.{in-Ok, in-Err}
use Rattle.program_io.proofs.output.write_all.Goals as goal

pub loop-init : goal.loop-init
loop-init g c = ([], refl, Appends-nil _)

pub loop-preserved : goal.loop-preserved
loop-preserved g c =
    let (done, split, received) = c.loop.invariant in
    let rest = c.loop.rest.now in
    elim c.match-write.branch [
      | in-Ok w ↦ (
        done
            ++ take w.in-Ok.count rest,
        rw w.rest-is (moved_range _ done rest w.in-Ok.count split),
        Appends-trans _ _ _ _ _ received w.in-Ok.ensures.bytes,
      )
      | in-Err w
          ↦ (done, rw w.rest-is split, Appends-kept _ _ _ _ received w.in-Err.ensures.bytes)
    ]

pub returns-then-is_empty-clause-prefix : goal.returns-then-is_empty-clause-prefix
returns-then-is_empty-clause-prefix g c =
    let (done, split, received) = c.loop.invariant in
    prefix_received _ _ _ done _ split received

pub returns-in-Err-2-clause-prefix : goal.returns-in-Err-2-clause-prefix
returns-in-Err-2-clause-prefix g c =
    let (done, split, received) = c.loop.invariant in
    prefix_received _ _ _ done _ split
    (Appends-kept _ _ _ _ received c.in-Err.ensures.bytes)

pub returns-clause-prefix : goal.returns-clause-prefix
returns-clause-prefix g c =
    let (done, split, received) = c.loop.invariant in
    prefix_received _ _ _ done _ split received
