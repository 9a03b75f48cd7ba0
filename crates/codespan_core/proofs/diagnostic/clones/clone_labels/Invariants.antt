use Rattle.codespan_core.proofs.Std.{◌≡◌, map, take}
use Rattle.codespan_core.specs.{label_view}
use Rattle.codespan_core.proofs.diagnostic.clones.clone_labels.Given as goal

abbrev pub invariant-loop-label : goal.invariant-loop-label
invariant-loop-label g l =
    map label_view l.copies.items ≡ map label_view (take l.label-index l.labels.items)
