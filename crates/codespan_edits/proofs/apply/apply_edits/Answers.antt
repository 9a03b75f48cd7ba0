use Rattle.codespan_core.proofs.Std.{length, arith}
use Rattle.std.proofs.Math.ListN.{length-map}
use Rattle.codespan_edits.specs.Edits.{text_edits}
use Rattle.codespan_edits.proofs.FitLemmas.{fit-in_order, places-listed}
use Rattle.codespan_edits.proofs.apply.apply_edits.Goals as goal

-- the edits, which have no fault, fit the source
pub put_together-requires-clause-fit : goal.put_together-requires-clause-fit
put_together-requires-clause-fit g c =
    rw (c.deref.ensures.value, c.in_ok-places.ensures.sorted)
    (fit-in_order c.args.source.now (text_edits c.args.edits.now) c.in_ok-places.ensures.failed)

-- their places have indices of the list
pub put_together-requires-clause-listed : goal.put_together-requires-clause-listed
put_together-requires-clause-listed g c =
    rw c.deref.ensures.value
    (places-listed (text_edits c.args.edits.now) (length c.args.edits.now)
    c.in_ok-places.places.items
    (rw length-map (omega arith)) c.in_ok-places.ensures.sorted)
