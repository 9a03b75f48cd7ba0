use Rattle.codespan_core.proofs.Std.{length}
use Rattle.codespan_renderer.specs.Private.{metrics_from, no_more, AreCached}
use Rattle.codespan_renderer.proofs.term.renderer.cached.line_cache.cache_metrics.Given as goal

-- what is cached and what the scan has left are all characters
abbrev pub invariant-loop-metrics : goal.invariant-loop-metrics
invariant-loop-metrics l = AreCached l.tab_width l.text l.cached.items l.rest

abbrev pub decreases-loop-metrics : goal.decreases-loop-metrics
decreases-loop-metrics l = length (metrics_from no_more l.rest)
