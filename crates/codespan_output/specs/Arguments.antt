-- Labels, lane marks and loci, as the calls of `Renderer` take them.
use Rattle.std.specs.Prelude.{ℕ, Bool, List, map, string_bytes, ◌+◌, true, ◌&&◌, nat_lt}
use Rattle.std.specs.Prelude.{nat_le, [], ◌∷◌}
use Rattle.std.specs.Borrow.{Bor}
use Rattle.std.specs.declared.ops.Range.{Range}
use Rattle.codespan_output.specs.Types.{LabelStyle}
use Rattle.codespan_core.specs.Labels.{LabelModel, LaneMark, MultiLabel, Top, Left, Bottom}
use Rattle.codespan_core.specs.Streams.{byte_stream}
use Rattle.codespan_output.specs.declared.arguments.Locus as rust_locus
use Rattle.codespan_output.specs.declared.arguments.MultiLabel as rust_multi_label
use Rattle.codespan_output.specs.declared.arguments.MultiLabel.TheVariants as rust_variant
use Rattle.codespan_output.specs.Rows.{Locus, Lanes}

-- a single-line label, as an argument
abbrev pub SingleLabelTuple : Type 0
SingleLabelTuple = LabelStyle × Range ℕ × Bor (List ℕ)

-- a lane mark, as an argument
abbrev pub LaneMarkTuple : Type 0
LaneMarkTuple = ℕ × LabelStyle × rust_multi_label.MultiLabel

-- a single-line label, from the argument
abbrev pub single_label_view : SingleLabelTuple → LabelModel
single_label_view x =
    record { style = x.0; start = x.1.start; end = x.1.end; message = byte_stream x.2.now }

-- single-line labels, from the arguments
abbrev pub single_label_views : List SingleLabelTuple → List LabelModel
single_label_views xs = map single_label_view xs

-- the labels start at this byte index or later, each no earlier than the one before it
abbrev pub starts_from : ℕ → List LabelModel → Bool
starts_from least [] = true
starts_from least (x ∷ xs) = nat_le least x.start && starts_from x.start xs

-- the labels are in the order of their starts
abbrev pub starts_in_order : List LabelModel → Bool
starts_in_order xs = starts_from 0 xs

-- a multi-line label mark, from the argument
abbrev pub multi_label_view : rust_multi_label.MultiLabel → MultiLabel
multi_label_view (rust_variant.Top start) = Top start
multi_label_view rust_variant.Left = Left
multi_label_view (rust_variant.Bottom end message) = Bottom end (byte_stream message.now)

-- a lane mark, from the argument
abbrev pub lane_mark_view : LaneMarkTuple → LaneMark
lane_mark_view m = record { lane = m.0; style = m.1; multi_label = multi_label_view m.2 }

-- how many lanes a row has, and the lane marks in them
abbrev pub lanes_of : ℕ → List LaneMarkTuple → Lanes
lanes_of count ms = record { count = count; lane_marks = map lane_mark_view ms }

-- the lanes ascend strictly from `least` on and stay below their number
abbrev pub ascend_from : ℕ → ℕ → List LaneMark → Bool
ascend_from count least [] = true
ascend_from count least (m ∷ ms) =
    nat_le least m.lane && nat_lt m.lane count && ascend_from count (m.lane + 1) ms

-- the one condition on a caller that passes lane marks: their lanes ascend strictly and are below
-- the number of lanes
abbrev pub lanes_in_order : ℕ → List LaneMarkTuple → Bool
lanes_in_order count ms = ascend_from count 0 (map lane_mark_view ms)

-- a locus, from the argument
abbrev pub locus_view : rust_locus.Locus → Locus
locus_view locus = record { name = string_bytes locus.name; location = locus.location }

-- the bytes of a borrowed text
abbrev pub text_now : Bor (List ℕ) → List ℕ
text_now s = s.now
