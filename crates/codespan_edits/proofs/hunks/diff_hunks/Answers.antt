use Rattle.codespan_core.proofs.Std.{length, arith}
use Rattle.std.proofs.Math.ListN.{length-map}
use Rattle.codespan_edits.specs.Edits.{text_edits}
use Rattle.codespan_edits.proofs.FitLemmas.{fit-in_order, places-listed}
use Rattle.codespan_edits.proofs.hunks.diff_hunks.Goals as goal

-- the edits, which have no fault, fit the source
pub collect_blocks-requires-clause-fit : goal.collect_blocks-requires-clause-fit
collect_blocks-requires-clause-fit g c =
    rw (c.deref.ensures.value, c.in_ok-places.ensures.sorted)
    (fit-in_order c.args.source.now (text_edits c.args.edits.now) c.in_ok-places.ensures.failed)

-- their places have indices of the list
pub collect_blocks-requires-clause-listed : goal.collect_blocks-requires-clause-listed
collect_blocks-requires-clause-listed g c =
    rw c.deref.ensures.value
    (places-listed (text_edits c.args.edits.now) (length c.args.edits.now)
    c.in_ok-places.places.items
    (rw length-map (omega arith)) c.in_ok-places.ensures.sorted)
