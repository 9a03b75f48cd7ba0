use Rattle.std.proofs.Math.ListN.{length-map}
use Rattle.codespan_edits.specs.Edits.{text_edits}
use Rattle.codespan_edits.proofs.PlaceLemmas.{sorted-in_order}
use Rattle.codespan_edits.proofs.order.sorted_places.Goals as goal

-- the places are in the order of the edits
pub returns-clause-sorted : goal.returns-clause-sorted
returns-clause-sorted g c =
    sorted-in_order (text_edits c.args.edits.now) c.loop-index.places.items
    c.sort_unstable.new.self.items c.loop-index.index
    (rw length-map c.loop-index-test.false) c.loop-index.invariant
    c.sort_unstable.ensures.permutation c.sort_unstable.ensures.sorted
