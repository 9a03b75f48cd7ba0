use Rattle.codespan_core.proofs.Std.{flat_map, length}
use Rattle.codespan_core.specs.Streams.{byte_stream}
use Rattle.codespan_core.proofs.Loops.{StillToWrite}
use Rattle.codespan_renderer.specs.Private.RemainingMetrics.{metrics_from, no_more}
use Rattle.codespan_suggestions.specs.DrawnText.{shown_text, shown_char}
use Rattle.codespan_suggestions.proofs.row.write_shown_text.Given as goal

-- the characters left are still to be written
abbrev pub invariant-loop-metrics : goal.invariant-loop-metrics
invariant-loop-metrics g l =
    StillToWrite (g.W.PutStyle.sink l.fn.w) (byte_stream (shown_text l.tab_width l.line))
    (flat_map (λ c. byte_stream (shown_char c)) (metrics_from no_more l.characters))
    (g.W.PutStyle.sink l.w)

abbrev pub decreases-loop-metrics : goal.decreases-loop-metrics
decreases-loop-metrics g l = length (metrics_from no_more l.characters)
