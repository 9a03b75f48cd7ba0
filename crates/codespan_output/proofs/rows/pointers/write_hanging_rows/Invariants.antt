use Rattle.codespan_core.proofs.Std.{filter, ◌≤◌}
use Rattle.codespan_core.specs.Labels.{has_message}
use Rattle.codespan_output.specs.{single_label_views, max_label_start}
use Rattle.codespan_output.specs.Private.{context_view, line_view, hanging_stream}
use Rattle.codespan_core.proofs.Loops.{StillToWrite}
use Rattle.codespan_output.proofs.rows.pointers.write_hanging_rows.Given as goal

-- the remaining labels are the first ones
abbrev pub invariant-loop-label : goal.invariant-loop-label
invariant-loop-label g l = record {
  with_written : StillToWrite (g.W.PutStyle.sink l.fn.w)
      (hanging_stream (context_view l.rows.context) (line_view l.rows.line)
      (filter has_message (single_label_views l.labels)))
      (hanging_stream (context_view l.rows.context) (line_view l.rows.line)
      (filter has_message (single_label_views l.label-iterator.iter.rest.now)))
      (g.W.PutStyle.sink l.w);
  within_max_start : max_label_start (single_label_views l.label-iterator.iter.rest.now)
      ≤ max_label_start
      (single_label_views l.rows.line.labels.now);
}
