use Rattle.codespan_core.proofs.Std.{ap, arith}
use Rattle.codespan_output.specs.CharMetrics.{width_of}
use Rattle.codespan_output.specs.RowParts.{metrics_up_to}
use Rattle.codespan_renderer.specs.Private.{metrics_from, no_more}
use Rattle.codespan_renderer.proofs.CachedScans.{past-scan}
use Rattle.codespan_output.proofs.Characters.Widths.{width-out}
use Rattle.codespan_renderer.proofs.term.renderer.char_metrics.CharMetrics.column_past.Goals as goal

pub returns-then-metrics-byte_index : goal.returns-then-metrics-byte_index
returns-then-metrics-byte_index c =
    let over = c.in-Some.ensures.yields in
    let rest = metrics_from no_more c.next_metrics.new.self in
    let step = ap (λ cs. width_of (metrics_up_to c.args.byte_index cs)) (over.yields no_more) in
    let none = ap width_of
    (past-scan c.args.byte_index c.in-Some.metrics c.loop-metrics.scan c.next_metrics.new.self
    over c.if-metrics-byte_index.true) in
    omega (
      arith,
      c.loop-metrics.invariant,
      over.starts_at_column,
      step,
      width-out c.args.byte_index c.in-Some.metrics rest c.if-metrics-byte_index.true,
      none,
    )
