-- What is computed of a line before it is shortened, by the code's own types.
use Rattle.std.specs.Prelude.{ℕ, ◌+◌, ◌-◌, ◌*◌, nat_lt, if◌then◌else◌, List, []}
use Rattle.std.specs.Prelude.{◌∷◌, ◌++◌, length, map, flat_map, Option, Some, None}
use Rattle.codespan_core.specs.Labels.{LabelModel, LaneMark}
use Rattle.codespan_output.specs.Carets.{max_label_end}
use Rattle.codespan_output.specs.FittedParts.{end_spans, mark_spans, or_line_start, whole_span}
use Rattle.codespan_fitting.specs.declared.spans.LabelSpan.{LabelSpan}
use Rattle.codespan_fitting.specs.declared.spans.LabelSpan.TheVariants.{Whole, Ends}
use Rattle.codespan_fitting.specs.declared.spans.Span.{Span}

-- `room` of a line with this many lanes
abbrev pub room_of : ℕ → ℕ → ℕ → ℕ
room_of width padding count = width - (padding + 3 + 2 * count)

-- `past_end` of a line with this text and these labels
abbrev pub past_end_of : List ℕ → List LabelModel → ℕ
past_end_of text labels = if nat_lt (length text) (max_label_end labels) then 1 else 0

-- a span of the definitions, from the code's own
abbrev pub span_view : Span → ℕ × ℕ
span_view s = (s.first, s.last)

-- one span or none
abbrev pub mark_span_views : Option Span → List (ℕ × ℕ)
mark_span_views None = []
mark_span_views (Some s) = span_view s ∷ []

-- spans of the definitions, from the code's own
abbrev pub span_views : List Span → List (ℕ × ℕ)
span_views spans = map span_view spans

-- the spans of a label by the code's choice
abbrev pub label_spans_of : LabelSpan → ℕ → LabelModel → List (ℕ × ℕ)
label_spans_of Whole n x = whole_span n x
label_spans_of Ends n x = end_spans n x

-- `needed_spans` of a line with this many bytes and this many of white space at its start, and with
-- these labels and lane marks
abbrev pub spans_of : (ℕ → LabelModel → List (ℕ × ℕ)) → ℕ → ℕ → List LabelModel
    → List LaneMark → List (ℕ × ℕ)
spans_of label_spans n leading labels lane_marks =
    or_line_start (flat_map (label_spans n) labels
    ++ flat_map (λ (m : LaneMark). mark_spans n leading m.multi_label) lane_marks)
