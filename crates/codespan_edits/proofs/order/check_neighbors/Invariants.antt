use Rattle.codespan_core.proofs.Std.{◌≡◌, ◌-◌, List, drop}
use Rattle.codespan_edits.specs.Edits.{TextEdit}
use Rattle.codespan_edits.specs.Faults.{neighbor_fault}
use Rattle.codespan_edits.specs.Private.Places.{edits_at}
use Rattle.codespan_edits.proofs.order.check_neighbors.Given as goal

-- no two neighbors up to the place before this one overlap
abbrev pub invariant-loop-index : goal.invariant-loop-index
invariant-loop-index l =
    (edits : List TextEdit) → neighbor_fault (edits_at edits l.places)
    ≡ neighbor_fault (drop (l.index - 1) (edits_at edits l.places))
