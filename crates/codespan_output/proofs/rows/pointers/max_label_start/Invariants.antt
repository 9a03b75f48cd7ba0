use Rattle.codespan_core.proofs.Std.{◌≡◌, fold, drop, max}
use Rattle.codespan_core.specs.Labels.{LabelModel}
use Rattle.codespan_output.specs.{single_label_views, max_label_start}
use Rattle.codespan_output.proofs.rows.pointers.max_label_start.Given as goal

-- the remaining labels decide
abbrev pub invariant-loop-label : goal.invariant-loop-label
invariant-loop-label l =
    fold (λ m (x : LabelModel). max m x.start) l.greatest
    (single_label_views (drop l.label-index l.labels))
    ≡ max_label_start (single_label_views l.labels)
