-- What each lane shows in each kind of row.
use Rattle.std.specs.Prelude.{ℕ, Bool, true, false, ◌&&◌, ◌==◌, nat_lt, nat_le, List}
use Rattle.std.specs.Prelude.{◌++◌, find, Option, Some, None, if◌then◌else◌}
use Rattle.codespan_output.specs.Types.{Severity, LabelStyle, Primary, Chars, Layout, Classic}
use Rattle.codespan_output.specs.Types.{Unbroken}
use Rattle.codespan_core.specs.Streams.{Stream, style_mark, glyph, spaces, repeated}
use Rattle.codespan_core.specs.declared.term.config.style_mark.StyleMark.TheVariants.{Label, Reset}
use Rattle.codespan_output.specs.declared.lane_shapes.Shape.{Shape}
use Rattle.codespan_output.specs.declared.lane_shapes.Shape.TheVariants.{Space, Bar, TopCorner}
use Rattle.codespan_output.specs.declared.lane_shapes.Shape.TheVariants.{BottomCorner}
use Rattle.codespan_core.specs.Labels.{LaneMark, MultiLabel, Top, Bottom}

-- a lane whose label starts at this byte index begins in the source row: the text of the line
-- begins with `leading` bytes of white space, and nothing else is before the start
abbrev pub begins_in_source_row : ℕ → ℕ → Bool
begins_in_source_row leading start = nat_le start leading

-- the layout in which a lane continues in every row below its corner in a source row
abbrev pub is_unbroken : Layout → Bool
is_unbroken Classic = false
is_unbroken Unbroken = true

-- a kind of row, as far as its lanes go: a source row; an empty or a break row; a caret, pointer or
-- hanging row; the underline row of a lane mark
pub data LaneRowKind : Type 0 where
  Source : LaneRowKind
  EmptyOrBreak : LaneRowKind
  SingleLabels : LaneRowKind
  Underline : LaneMark → LaneRowKind

-- the table of lanes: what a multi-line label mark shows in a kind of row; a break row has the lane
-- marks of the line after it
abbrev pub row_shape : Layout → ℕ → LaneRowKind → ℕ → MultiLabel → Shape
row_shape layout leading Source lane (Top start) =
    if begins_in_source_row leading start then TopCorner else Space
row_shape layout leading EmptyOrBreak lane (Top start) = Space
row_shape layout leading SingleLabels lane (Top start) =
    if is_unbroken layout && begins_in_source_row leading start then Bar else Space
row_shape layout leading (Underline m) lane (Top start) =
    if is_unbroken layout && begins_in_source_row leading start then Bar
    else if lane == m.lane then TopCorner else if nat_lt lane m.lane then Bar else Space
row_shape layout leading (Underline m) lane (Bottom end message) =
    if lane == m.lane then BottomCorner else if nat_lt lane m.lane then Space else Bar
row_shape layout leading _ lane _ = Bar

-- the crossing of a lane: the lane mark of an underline row whose corner is left of the lane
abbrev pub row_crossing : LaneRowKind → ℕ → Option LaneMark
row_crossing (Underline m) lane = if nat_lt m.lane lane then Some m else None
row_crossing _ lane = None

-- ---- the lane marks of a row

-- the first of the lane marks that is in the lane
abbrev pub lane_mark_in : List LaneMark → ℕ → Option LaneMark
lane_mark_in lane_marks lane = find (λ (m : LaneMark). m.lane == lane) lane_marks

-- what a row shows in a lane, from the lane mark in it
abbrev pub shape_of : (MultiLabel → Shape) → Option LaneMark → Shape
shape_of shape None = Space
shape_of shape (Some m) = shape m.multi_label

-- the style of a lane mark, primary where there is none
abbrev pub style_of_lane_mark : Option LaneMark → LabelStyle
style_of_lane_mark None = Primary
style_of_lane_mark (Some m) = m.style

-- ---- the characters of lanes

-- the underline that runs right from a corner
abbrev pub underline_char : Chars → MultiLabel → ℕ
underline_char chars (Top start) = chars.multi_top
underline_char chars _ = chars.multi_bottom

-- one character in a label's style
unfoldable pub label_glyph : Severity → LabelStyle → ℕ → Stream
label_glyph severity style c =
    style_mark (Label severity style) ++ glyph c ++ style_mark Reset

-- `n` characters of a lane: of the underline that crosses it, or spaces
unfoldable pub crossing_characters : Severity → Chars → Option LaneMark → ℕ → Stream
crossing_characters severity chars None n = spaces n
crossing_characters severity chars (Some m) n =
    style_mark (Label severity m.style) ++ repeated n (underline_char chars m.multi_label)
    ++ style_mark Reset

-- the two characters of a lane: a space, or one character of the underline that crosses it, and
-- then its own; if it shows nothing, two such
unfoldable pub lane_characters : Severity → Chars → Option LaneMark → LabelStyle → Shape
    → Stream
lane_characters severity chars crossing style Space = crossing_characters severity chars crossing 2
lane_characters severity chars crossing style Bar =
    crossing_characters severity chars crossing 1 ++ label_glyph severity style chars.multi_left
lane_characters severity chars crossing style TopCorner =
    crossing_characters severity chars crossing 1 ++ label_glyph severity style chars.multi_top_left
lane_characters severity chars crossing style BottomCorner =
    crossing_characters severity chars crossing 1
    ++ label_glyph severity style chars.multi_bottom_left
