use Rattle.codespan_core.proofs.Std.{◌≡◌, drop, max, fold}
use Rattle.codespan_core.specs.Labels.{LabelModel}
use Rattle.codespan_output.specs.{max_label_end, single_label_views}
use Rattle.codespan_output.proofs.rows.carets.max_label_end.Given as goal

-- the remaining labels decide
abbrev pub invariant-loop-label : goal.invariant-loop-label
invariant-loop-label l =
    fold (λ m (x : LabelModel). max m x.end) l.greatest
    (single_label_views (drop l.label-index l.labels))
    ≡ max_label_end (single_label_views l.labels)
