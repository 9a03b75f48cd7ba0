use Rattle.codespan_core.proofs.Std.{◌≡◌, ◌++◌, List, drop, map}
use Rattle.codespan_output.specs.Arguments.{single_label_views}
use Rattle.codespan_output.specs.FittedLines.{moved_label}
use Rattle.codespan_output.specs.FittedParts.{Piece}
use Rattle.codespan_fitting.specs.Cuts.{AreCutsOf}
use Rattle.codespan_fitting.proofs.moved.move_labels.Given as goal

-- the labels that were pushed and those that are left, moved, are all of them
abbrev pub invariant-loop-label : goal.invariant-loop-label
invariant-loop-label l = (pieces : List Piece) → AreCutsOf pieces l.cuts
    → single_label_views l.moved_labels.items
    ++ map (moved_label pieces) (single_label_views (drop l.label-index l.labels))
    ≡ map (moved_label pieces) (single_label_views l.labels)
