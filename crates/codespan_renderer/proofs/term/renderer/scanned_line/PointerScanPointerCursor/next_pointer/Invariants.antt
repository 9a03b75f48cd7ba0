use Rattle.codespan_core.proofs.Std.{◌≡◌, length}
use Rattle.codespan_output.specs.Arguments.{single_label_views}
use Rattle.codespan_output.specs.Rows.{hanging_labels}
use Rattle.codespan_output.specs.Private.PointerLists.{pointers_in}
use Rattle.codespan_renderer.specs.Private.{metrics_from, no_more}
use Rattle.codespan_renderer.proofs.term.renderer.scanned_line.PointerScanPointerCursor.next_pointer.Given as goal

-- no pointer was under the characters that it has gone over
abbrev pub invariant-loop-metrics : goal.invariant-loop-metrics
invariant-loop-metrics l =
    pointers_in (hanging_labels (single_label_views l.self.messages.labels.now))
    (metrics_from no_more l.self.char_metrics)
    ≡ pointers_in (hanging_labels (single_label_views l.fn.self.messages.labels.now))
    (metrics_from no_more l.fn.self.char_metrics)

abbrev pub decreases-loop-metrics : goal.decreases-loop-metrics
decreases-loop-metrics l = length (metrics_from no_more l.self.char_metrics)
