use Rattle.codespan_core.proofs.Std.{◌≡◌, drop, list_any}
use Rattle.codespan_core.specs.Labels.{has_message}
use Rattle.codespan_output.specs.{single_label_views}
use Rattle.codespan_output.proofs.rows.messages.has_any_message.Given as goal

-- the remaining labels decide
abbrev pub invariant-loop-label : goal.invariant-loop-label
invariant-loop-label l =
    list_any has_message (single_label_views (drop l.label-index l.labels))
    ≡ list_any has_message (single_label_views l.labels)
