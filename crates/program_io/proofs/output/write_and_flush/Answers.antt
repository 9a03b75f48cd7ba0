use Rattle.std.proofs.KnownBytes.{Appends-kept}
use Rattle.program_io.proofs.Received.{on_success, prefix_kept}
use Rattle.program_io.proofs.output.write_and_flush.Goals as goal

pub returns-clause-written : goal.returns-clause-written
returns-clause-written g c =
    on_success c.flush.result
    (Appends-kept _ _ _ _ c.in_ok-write_all.ensures.written c.flush.ensures.bytes)

pub returns-clause-prefix : goal.returns-clause-prefix
returns-clause-prefix g c = prefix_kept _ _ _ _ c.write_all.ensures.prefix c.flush.ensures.bytes
