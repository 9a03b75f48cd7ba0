-- What the rows of a line are rendered from, by the structs of `rows::line` and the enum of
-- `rows::lanes`.
use Rattle.std.specs.Prelude.{ℕ, flat_map, Option}
use Rattle.std.specs.List.{range_with_len}
use Rattle.std.specs.Option.{option_map}
use Rattle.codespan_core.specs.Labels.{LaneMark, MultiLabel}
use Rattle.codespan_core.specs.Streams.{Stream}
use Rattle.codespan_output.specs.declared.lane_shapes.Shape.{Shape}
use Rattle.codespan_output.specs.declared.rows.lanes.LaneRowKind.{LaneRowKind as RustLaneRowKind}
use Rattle.codespan_output.specs.declared.rows.lanes.LaneRowKind.TheVariants as rust_variant
use Rattle.codespan_output.specs.declared.rows.line.RowContext as rust_context
use Rattle.codespan_output.specs.declared.rows.line.Lanes as rust_lanes
use Rattle.codespan_output.specs.declared.rows.line.Line as rust_line
use Rattle.codespan_output.specs.Arguments.{LaneMarkTuple, single_label_views, lanes_of}
use Rattle.codespan_output.specs.Arguments.{lane_mark_view}
use Rattle.codespan_output.specs.Lanes.{LaneRowKind, Source, EmptyOrBreak, SingleLabels, Underline}
use Rattle.codespan_output.specs.Lanes.{row_shape, row_crossing, lane_mark_in, shape_of}
use Rattle.codespan_output.specs.Lanes.{style_of_lane_mark, lane_characters}
use Rattle.codespan_output.specs.Rows.{RowContext, Lanes, Line}
use Rattle.codespan_output.specs.RowParts.{inner_gutter}

-- what all rows of an output are rendered by
abbrev pub context_view : rust_context.RowContext → RowContext
context_view x = record {
  chars = x.chars.now;
  tab_width = x.tab_width;
  layout = x.layout;
  severity = x.severity;
  padding = x.padding;
}

-- how many lanes a row has, and the lane marks in them
abbrev pub lanes_view : rust_lanes.Lanes → Lanes
lanes_view x = lanes_of x.count x.lane_marks.now

-- a drawn line
abbrev pub line_view : rust_line.Line → Line
line_view x = record {
  number = x.number;
  text = x.text.now;
  labels = single_label_views x.labels.now;
  lanes = lanes_view x.lanes;
}

-- a kind of row, as far as its lanes go
abbrev pub lane_row_kind_view : RustLaneRowKind → LaneRowKind
lane_row_kind_view rust_variant.Source = Source
lane_row_kind_view rust_variant.EmptyOrBreak = EmptyOrBreak
lane_row_kind_view rust_variant.SingleLabels = SingleLabels
lane_row_kind_view (rust_variant.Underline corner_lane style multi_label) =
    Underline (lane_mark_view (corner_lane, style, multi_label))

-- one lane, from the lane mark in it
abbrev pub inner_gutter_column : RowContext → Option LaneMark → (MultiLabel → Shape)
    → Option LaneMark → Stream
inner_gutter_column context crossing shape lane_mark =
    lane_characters context.severity context.chars crossing (style_of_lane_mark lane_mark)
    (shape_of shape lane_mark)

-- the lanes from left to right, by what crosses each, and what a lane mark shows in it
abbrev pub lanes_in : RowContext → (ℕ → Option LaneMark) → (ℕ → MultiLabel → Shape)
    → Lanes → Stream
lanes_in context crossing shape lanes =
    flat_map
    (λ lane.
    inner_gutter_column context (crossing lane) (shape lane) (lane_mark_in lanes.lane_marks lane))
    (range_with_len 0 lanes.count)

-- one lane of a kind of row, from the lane mark in it
unfoldable pub row_lane_stream : RowContext → ℕ → RustLaneRowKind → ℕ
    → Option LaneMarkTuple
    → Stream
row_lane_stream context leading row lane lane_mark =
    inner_gutter_column context (row_crossing (lane_row_kind_view row) lane)
    (row_shape context.layout leading (lane_row_kind_view row) lane)
    (option_map lane_mark_view lane_mark)

-- the lanes of a kind of row
unfoldable pub row_lanes_stream : RowContext → ℕ → RustLaneRowKind → Lanes → Stream
row_lanes_stream context leading row lanes =
    inner_gutter context leading (lane_row_kind_view row) lanes
