use Rattle.codespan_core.proofs.Std.{ap, ◌∙◌, map, take_all}
use Rattle.codespan_edits.specs.Edits.{text_edits, ListedEdit}
use Rattle.codespan_edits.specs.declared.order.Place.{Place}
use Rattle.codespan_edits.proofs.OrderedEdits.{place-indices}
use Rattle.codespan_edits.proofs.order.order_of_edits.Goals as goal

-- the places are those of the edits in order
pub returns-clause-order : goal.returns-clause-order
returns-clause-order g c =
    let edits = text_edits c.args.edits.now in
    c.loop-place.invariant
    ∙ ap (map (λ (p : Place). p.index))
    (take_all c.loop-place.place-index c.deref-place-items.result.now c.loop-place-test.false
    ∙ c.deref-place-items.ensures.value)
    ∙ place-indices edits c.in_ok-places.places.items
    ∙ ap (map (λ (x : ListedEdit). x.index)) c.in_ok-places.ensures.sorted
