use Rattle.codespan_core.proofs.Std.{◌≡◌, filter, drop}
use Rattle.codespan_core.specs.Labels.{has_message}
use Rattle.codespan_output.specs.Arguments.{single_label_views}
use Rattle.codespan_output.specs.RowParts.{starts_in}
use Rattle.codespan_renderer.specs.Private.{preferred_style}
use Rattle.codespan_renderer.proofs.term.renderer.label_styles.start_style.Given as goal

-- the remaining labels decide, with what was found
abbrev pub invariant-loop-label : goal.invariant-loop-label
invariant-loop-label l =
    preferred_style (starts_in l.metrics) l.best
    (filter has_message (single_label_views (drop l.label-index l.labels)))
    ≡ preferred_style (starts_in l.metrics) l.fn.found
    (filter has_message (single_label_views l.labels))
