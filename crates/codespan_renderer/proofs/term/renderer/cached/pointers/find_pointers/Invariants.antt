use Rattle.codespan_core.proofs.Std.{◌≡◌, ◌++◌, length}
use Rattle.codespan_output.specs.CharMetrics.{char_metrics}
use Rattle.codespan_output.specs.Arguments.{single_label_views}
use Rattle.codespan_output.specs.Rows.{hanging_labels}
use Rattle.codespan_output.specs.Private.PointerLists.{pointers_in}
use Rattle.codespan_renderer.specs.Private.{remaining_from_cache}
use Rattle.codespan_output.proofs.Characters.ScanState.{ScanState}
use Rattle.codespan_renderer.proofs.PointerCursors.{IsPassing}
use Rattle.codespan_renderer.proofs.term.renderer.cached.pointers.find_pointers.Given as goal

-- the pointers of the characters that are left are still to be found
abbrev pub invariant-loop-metrics : goal.invariant-loop-metrics
invariant-loop-metrics l = record {
  cursor : IsPassing l.messages.before.now l.messages.after.now l.before_trailing l.after_trailing
      (remaining_from_cache l.metrics-iterator);
  scan_state : ScanState (length l.line.text.now) 0 (remaining_from_cache l.metrics-iterator);
  found : l.pointers.items
      ++ pointers_in (hanging_labels (single_label_views l.messages.labels.now))
      (remaining_from_cache l.metrics-iterator)
      ≡ pointers_in (hanging_labels (single_label_views l.messages.labels.now))
      (char_metrics l.tab_width l.line.text.now);
}
