use Rattle.codespan_core.proofs.Std.{◌≡◌, map, take}
use Rattle.codespan_edits.specs.declared.order.Place.{Place}
use Rattle.codespan_edits.proofs.order.order_of_edits.Given as goal

-- the indices of the places so far
abbrev pub invariant-loop-place : goal.invariant-loop-place
invariant-loop-place g l =
    l.order.items ≡ map (λ (p : Place). p.index) (take l.place-index l.place-items)
