use Rattle.codespan_core.proofs.Std.{◌≡◌, ◌+◌, ◌-◌, ◌≤◌, length, true, filter}
use Rattle.codespan_core.proofs.Std.{Option}
use Rattle.codespan_core.specs.Labels.{has_message}
use Rattle.codespan_output.specs.Types.{LabelStyle}
use Rattle.codespan_output.specs.Arguments.{single_label_views, starts_from}
use Rattle.codespan_output.specs.RowParts.{starts_in}
use Rattle.codespan_output.specs.declared.char_metrics.Metrics.{Metrics}
use Rattle.codespan_renderer.specs.Private.{remaining_start_labels, preferred_style}
use Rattle.codespan_renderer.proofs.term.renderer.cached.label_cursor.StartCursor.start_style.Given as goal

-- the remaining labels decide, with what was found; those passed start in no later character
abbrev pub invariant-loop-self : goal.invariant-loop-self
invariant-loop-self l = record {
  here : preferred_style (starts_in l.metrics) l.best
      (filter has_message (remaining_start_labels l.self))
      ≡ preferred_style (starts_in l.metrics) l.fn.found
      (filter has_message (single_label_views l.fn.self.labels.now));
  later : (c : Metrics) (found : Option LabelStyle)
      → l.metrics.byte_index + l.metrics.bytes ≤ c.byte_index
      → preferred_style (starts_in c) found
      (filter has_message (single_label_views l.fn.self.labels.now))
      ≡ preferred_style (starts_in c) found (filter has_message (remaining_start_labels l.self));
  ordered : starts_from l.metrics.byte_index (remaining_start_labels l.self) ≡ true;
  same : l.self.labels.now ≡ l.fn.self.labels.now;
}

abbrev pub decreases-loop-self : goal.decreases-loop-self
decreases-loop-self l = length l.labels - l.self.next
