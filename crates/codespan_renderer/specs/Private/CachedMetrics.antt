-- The cached characters of a line, and how far they reach.
use Rattle.std.specs.Prelude.{◌≡◌, ℕ, max, List, [], ◌++◌, fold, Option, Some, None}
use Rattle.std.specs.Str.{chars}
use Rattle.codespan_core.specs.Labels.{LabelModel, LaneMark, MultiLabel, Top, Left, Bottom}
use Rattle.codespan_output.specs.declared.char_metrics.Metrics.{Metrics}
use Rattle.codespan_output.specs.CharMetrics.{metrics_then}
use Rattle.codespan_output.specs.RowParts.{metrics_up_to}
use Rattle.codespan_renderer.specs.declared.term.renderer.char_metrics.CharMetrics.{CharMetrics}
use Rattle.codespan_renderer.specs.declared.term.renderer.cached.cached_metrics.MetricsFromCache.{MetricsFromCache}
use Rattle.codespan_renderer.specs.Private.RemainingMetrics.{MetricsAfterEnd, metrics_from}
use Rattle.codespan_renderer.specs.Private.RemainingMetrics.{remaining_metrics, no_more}

-- the characters that are left: the cached ones, and then those of the iterator
abbrev pub remaining_from_cache : MetricsFromCache → List Metrics
remaining_from_cache s = s.cached.now ++ remaining_metrics s.rest

-- the cached characters and those of the iterator are all characters of the text, whatever is after
-- the last one
abbrev pub AreCached : ℕ → List ℕ → List Metrics → CharMetrics → Type 0
AreCached tab text cached rest =
    (after : MetricsAfterEnd)
    → cached ++ metrics_from after rest ≡ metrics_then after tab 0 0 (chars text)

-- the characters that begin within a reach
abbrev pub metrics_within : Option ℕ → List Metrics → List Metrics
metrics_within None cs = []
metrics_within (Some byte_index) cs = metrics_up_to byte_index cs

-- all characters that the iterator has left begin past the reach, if there is one
abbrev pub ReachesPast : Option ℕ → CharMetrics → Type 0
ReachesPast reach rest = metrics_within reach (metrics_from no_more rest) ≡ []

-- the greater of a reach and a byte index
abbrev pub farther : Option ℕ → ℕ → Option ℕ
farther None byte_index = Some byte_index
farther (Some reach) byte_index = Some (max reach byte_index)

-- the greater of a reach and the byte index of a multi-line label mark: the start of a `Top`, the
-- end of a `Bottom`
abbrev pub farther_multi_label : Option ℕ → MultiLabel → Option ℕ
farther_multi_label reach (Top start) = farther reach start
farther_multi_label reach Left = reach
farther_multi_label reach (Bottom end message) = farther reach end

-- how far the rows under a line reach: the greatest start or end of its labels, start of a `Top`
-- and end of a `Bottom`; none where it has none of them
abbrev pub reach_of : List LabelModel → List LaneMark → Option ℕ
reach_of labels lane_marks =
    fold (λ reach (m : LaneMark). farther_multi_label reach m.multi_label)
    (fold (λ reach (x : LabelModel). farther (farther reach x.start) x.end) None labels) lane_marks
