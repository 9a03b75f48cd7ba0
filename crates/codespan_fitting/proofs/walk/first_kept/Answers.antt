use Rattle.codespan_fitting.proofs.walk.first_kept.Goals as goal

pub returns-then-is_after_needed : goal.returns-then-is_after_needed
returns-then-is_after_needed c =
    rw c.if-is_after_needed.true
    record { bytes = c.keep_first.ensures.bytes; cells = c.keep_first.ensures.cells }
