use Rattle.codespan_core.proofs.Std.{◌≡◌, ◌+◌, length}
use Rattle.codespan_output.specs.CharMetrics.{width_of}
use Rattle.codespan_output.specs.RowParts.{metrics_up_to}
use Rattle.codespan_renderer.specs.Private.{metrics_from, no_more}
use Rattle.codespan_renderer.proofs.term.renderer.char_metrics.CharMetrics.column_past.Given as goal

-- the columns of what is behind the scan and of what is still to count
abbrev pub invariant-loop-metrics : goal.invariant-loop-metrics
invariant-loop-metrics l =
    l.scan.column + width_of (metrics_up_to l.byte_index (metrics_from no_more l.scan))
    ≡ l.self.column + width_of (metrics_up_to l.byte_index (metrics_from no_more l.self))

abbrev pub decreases-loop-metrics : goal.decreases-loop-metrics
decreases-loop-metrics l = length (metrics_from no_more l.scan)
