use Rattle.codespan_core.proofs.Std.{◌≡◌, ◌++◌, drop}
use Rattle.codespan_edits.specs.Edits.{text_edits, listed, listed_from}
use Rattle.codespan_edits.specs.Private.Places.{edits_at}
use Rattle.codespan_edits.proofs.order.sorted_places.Given as goal

-- the places so far and the edits left are the list
abbrev pub invariant-loop-index : goal.invariant-loop-index
invariant-loop-index g l =
    let edits = text_edits l.edits in
    edits_at edits l.places.items ++ listed_from l.index (drop l.index edits) ≡ listed edits
