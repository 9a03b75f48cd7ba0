use Rattle.codespan_core.proofs.Std.{◌≡◌, ◌++◌, List, drop, map}
use Rattle.codespan_output.specs.Arguments.{lane_mark_view}
use Rattle.codespan_output.specs.FittedLines.{moved_mark}
use Rattle.codespan_output.specs.FittedParts.{Piece}
use Rattle.codespan_fitting.specs.Cuts.{AreCutsOf}
use Rattle.codespan_fitting.proofs.moved.move_marks.Given as goal

-- the lane marks that were pushed and those that are left, moved, are all of them
abbrev pub invariant-loop-mark : goal.invariant-loop-mark
invariant-loop-mark l = (pieces : List Piece) → AreCutsOf pieces l.cuts
    → map lane_mark_view l.moved_marks.items
    ++ map (moved_mark pieces) (map lane_mark_view (drop l.mark-index l.lane_marks))
    ≡ map (moved_mark pieces) (map lane_mark_view l.lane_marks)
