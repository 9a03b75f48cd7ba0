use Rattle.codespan_renderer.proofs.CachedScans.{past-scan}
use Rattle.codespan_renderer.proofs.term.renderer.cached.line_cache.cache_metrics.Goals as goal

pub returns-then-metrics-reach-clause-reaches_past
    : goal.returns-then-metrics-reach-clause-reaches_past
returns-then-metrics-reach-clause-reaches_past c =
    rw c.in-Some.is
    (past-scan c.in-Some.reach c.in-Some-next_metrics.metrics c.loop-metrics.rest
    c.next_metrics.new.self c.in-Some-next_metrics.ensures.yields c.if-metrics-reach.true)
