use Rattle.codespan_core.proofs.Std.{◌≤◌, ◌-◌, ◌==◌, length}
use Rattle.std.specs.Vec.{vec_capacity}
use Rattle.codespan_views.specs.declared.annotation.order.TheConstants.{MOVED}
use Rattle.codespan_views.proofs.Annotations.KeptElements.{AreKept}
use Rattle.codespan_views.proofs.annotation.order.follow_chains.Given as goal

-- the annotations that were moved are those marked, and there is room for all
abbrev pub invariant-loop-start : goal.invariant-loop-start
invariant-loop-start g l = record {
  moved : AreKept (λ n. n == MOVED) l.fn.next l.next l.annotations l.moved.items;
  room : length l.annotations ≤ vec_capacity l.moved;
}

abbrev pub invariant-loop-index : goal.invariant-loop-index
invariant-loop-index g l = record {
  moved : AreKept (λ n. n == MOVED) l.fn.next l.next l.annotations l.moved.items;
  room : length l.annotations ≤ vec_capacity l.moved;
}

abbrev pub decreases-loop-index : goal.decreases-loop-index
decreases-loop-index g l = length l.annotations - length l.moved.items
