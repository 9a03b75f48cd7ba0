-- The cached characters of a line and the scan of the others: serves `cache_metrics`, and the
-- cursors of a cached line.
use Rattle.codespan_core.proofs.Std.{◌≡◌, ℕ, ◌-◌, ◌<◌, Bool, List, [], ◌++◌}
use Rattle.codespan_core.proofs.Std.{take, drop, length, append_assoc, sym, ap, ◌∙◌, arith}
use Rattle.codespan_core.proofs.Std.{chars, common_steps}
use Rattle.std.specs.Str.Iter.{chars_rest}
use Rattle.codespan_output.specs.declared.char_metrics.Metrics.{Metrics}
use Rattle.codespan_output.specs.CharMetrics.{metrics_then}
use Rattle.codespan_output.specs.RowParts.{metrics_up_to}
use Rattle.codespan_renderer.specs.declared.term.renderer.char_metrics.CharMetrics.{CharMetrics}
use Rattle.codespan_renderer.specs.Private.{MetricsAfterEnd, GoesOver, after_last, metrics_from}
use Rattle.codespan_renderer.specs.Private.{remaining_metrics, no_more, AreCached}
use Rattle.codespan_output.proofs.Characters.Consecutive.{char_metrics-consecutive}
use Rattle.codespan_output.proofs.Messages.Pieces.{taken-dropped}
use Rattle.codespan_renderer.proofs.WidthSearch.{past-none}

-- a scan that goes on elsewhere yields what the first one would
cached-after : (tab : ℕ) (text : List ℕ) (cached : List Metrics) (rest fork : CharMetrics)
    (has_placeholder : Bool)
    → AreCached tab text cached rest
    → ((after : MetricsAfterEnd) → metrics_from after fork ≡ metrics_from after rest)
    → fork.has_placeholder ≡ has_placeholder
    → cached ++ remaining_metrics fork ≡ metrics_then (after_last has_placeholder) tab 0 0
    (chars text)
cached-after tab text cached rest fork has_placeholder are same end = grind (arith, common_steps)

-- the same, where the first ones of the cache are left out
pub cached-from : (tab : ℕ) (text : List ℕ) (cached : List Metrics) (rest fork : CharMetrics)
    (has_placeholder : Bool) (n : ℕ)
    → AreCached tab text cached rest
    → ((after : MetricsAfterEnd) → metrics_from after fork ≡ metrics_from after rest)
    → fork.has_placeholder ≡ has_placeholder
    → take n
    cached ++ (take (length cached - n) (drop n cached) ++ remaining_metrics fork)
    ≡ metrics_then (after_last has_placeholder) tab 0 0 (chars text)
cached-from tab text cached rest fork has_placeholder n are same end =
    sym (append_assoc (take n cached) (take (length cached - n) (drop n cached))
    (remaining_metrics fork))
    ∙ ap (λ (cs : List Metrics). cs ++ remaining_metrics fork) (taken-dropped n cached)
    ∙ cached-after tab text cached rest fork has_placeholder are same end

-- after a character past a byte index all begin past it
pub past-scan : (byte_index : ℕ) (c : Metrics) (old new : CharMetrics) → GoesOver c old new
    → byte_index < c.byte_index → metrics_up_to byte_index (metrics_from no_more new) ≡ []
past-scan byte_index c old new over far =
    past-none byte_index new.byte_index new.column (metrics_from no_more new)
    (char_metrics-consecutive new.tab_width new.byte_index new.column
    (chars (chars_rest new.chars)))
    (omega (arith, over.byte_index, over.starts_at_byte, far))
