use Rattle.codespan_core.proofs.Std.{◌≡◌, drop}
use Rattle.codespan_edits.specs.Edits.{text_edits, listed, listed_from}
use Rattle.codespan_edits.specs.Faults.{first_own_fault}
use Rattle.codespan_edits.proofs.order.check_ranges.Given as goal

-- the edits before this one have no fault of their own
abbrev pub invariant-loop-index : goal.invariant-loop-index
invariant-loop-index g l =
    first_own_fault l.source (listed (text_edits l.edits))
    ≡ first_own_fault l.source (listed_from l.index (drop l.index (text_edits l.edits)))
