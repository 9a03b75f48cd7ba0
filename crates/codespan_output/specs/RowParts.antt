-- The parts of rows as streams. Those that are unfoldable stay folded in a proof unless it
-- unfolds them: calls that write one after another then match their parts from left to right.
use Rattle.std.specs.Prelude.{ℕ, ◌+◌, ◌-◌, Bool, true, ◌||◌, ◌&&◌, ◌==◌}
use Rattle.std.specs.Prelude.{nat_lt, nat_le, max, List, [], ◌∷◌, ◌++◌, filter, length}
use Rattle.std.specs.Prelude.{fold, flat_map, Option, Some, None, codes, decimal, map}
use Rattle.std.specs.Prelude.{if◌then◌else◌}
use Rattle.std.specs.Option.{option_and_then, option_map_or}
use Rattle.std.specs.List.{list_any, range_with_len, zip, last_or}
use Rattle.std.specs.Str.{byte}
use Rattle.codespan_output.specs.Types.{Severity, LabelStyle, Primary, Secondary, Chars}
use Rattle.codespan_core.specs.Streams.{Stream, style_mark, glyph, byte_stream, spaces, space}
use Rattle.codespan_core.specs.Streams.{repeated}
use Rattle.codespan_core.specs.declared.term.config.style_mark.StyleMark.TheVariants.{LineNumber}
use Rattle.codespan_core.specs.declared.term.config.style_mark.StyleMark.TheVariants.{SourceBorder}
use Rattle.codespan_core.specs.declared.term.config.style_mark.StyleMark.TheVariants.{Label, Reset}
use Rattle.codespan_core.specs.Labels.{LabelModel, is_primary, is_primary_style, LaneMark}
use Rattle.codespan_core.specs.Labels.{MultiLabel, Top, Left, Bottom}
use Rattle.codespan_output.specs.declared.char_metrics.Metrics.{Metrics}
use Rattle.codespan_output.specs.CharMetrics.{char_metrics, char_metrics_to_end, width_of}
use Rattle.codespan_output.specs.CharMetrics.{leading_whitespace}
use Rattle.codespan_output.specs.Carets.{covers, caret_for, max_label_end, style_of_any}
use Rattle.codespan_output.specs.Carets.{style_under}
use Rattle.codespan_output.specs.Lanes.{LaneRowKind, row_shape, row_crossing, lane_mark_in}
use Rattle.codespan_output.specs.Lanes.{shape_of, style_of_lane_mark, lane_characters, label_glyph}
use Rattle.codespan_output.specs.Lanes.{Source, EmptyOrBreak, SingleLabels, Underline}
use Rattle.codespan_output.specs.Rows.{Locus, RowContext, hanging_labels, Lanes, Line, Row}
use Rattle.codespan_output.specs.Rows.{SourceRow, BreakRow, CaretRow, PointerRow, HangingRow}
use Rattle.codespan_output.specs.Rows.{UnderlineRow}

-- ---- parts of rows

-- the locus, in the start of a snippet or in a header: name, line number and column number
unfoldable pub snippet_locus : Locus → Stream
snippet_locus locus =
    byte_stream locus.name ++ byte_stream (codes ":")
    ++ byte_stream (decimal locus.location.line_number) ++ byte_stream (codes ":")
    ++ byte_stream (decimal locus.location.column_number)

-- the outer gutter without a line number: the padding, and one space more
unfoldable pub outer_gutter : ℕ → Stream
outer_gutter padding = spaces (padding + 1)

-- the outer gutter with a line number, right-aligned in the padding
unfoldable pub outer_gutter_number : ℕ → ℕ → Stream
outer_gutter_number padding n =
    style_mark LineNumber ++ spaces (padding - length (decimal n)) ++ byte_stream (decimal n)
    ++ style_mark Reset ++ space

-- the left border
unfoldable pub border_left : Chars → Stream
border_left chars = style_mark SourceBorder ++ glyph chars.source_border_left ++ style_mark Reset

-- the left border of a break row
unfoldable pub border_left_break : Chars → Stream
border_left_break chars =
    style_mark SourceBorder ++ glyph chars.source_border_left_break ++ style_mark Reset

-- between two styles: the style mark of the second, or a reset for none; nothing if they are equal
unfoldable pub style_change : Severity → Option LabelStyle → Option LabelStyle → Stream
style_change severity None None = []
style_change severity None (Some style) = style_mark (Label severity style)
style_change severity (Some style) None = style_mark Reset
style_change severity (Some Primary) (Some Primary) = []
style_change severity (Some Secondary) (Some Secondary) = []
style_change severity (Some _) (Some style) = style_mark (Label severity style)

-- these characters, as `shown` shows them: before each the change from the style of the one before
-- it, and after all the change to none
abbrev pub styled : Severity → (Metrics → Option LabelStyle) → (Metrics → Stream)
    → List Metrics → Stream
styled severity style shown cs =
    flat_map (λ (x : Option LabelStyle × Metrics).
    style_change severity x.0 (style x.1) ++ shown x.1) (zip (None ∷ map style cs) cs)
    ++ style_change severity (option_and_then style (last_or None cs)) None

-- a label's message in its style
unfoldable pub label_message : Severity → LabelStyle → Stream → Stream
label_message severity style message =
    style_mark (Label severity style) ++ message ++ style_mark Reset

-- ---- the lanes of a row

-- the line of a row that has one
abbrev pub line_of_row : Row → Option Line
line_of_row (SourceRow line) = Some line
line_of_row (CaretRow line) = Some line
line_of_row (PointerRow line) = Some line
line_of_row (HangingRow line x) = Some line
line_of_row (UnderlineRow line m) = Some line
line_of_row _ = None

-- how many bytes of white space its line begins with, 0 where it has none
abbrev pub leading_of_row : Row → ℕ
leading_of_row row =
    option_map_or (λ (line : Line). leading_whitespace line.text) (line_of_row row) 0

-- the kind of a row, as far as its lanes go
abbrev pub lane_row_kind_of : Row → LaneRowKind
lane_row_kind_of (SourceRow line) = Source
lane_row_kind_of (CaretRow line) = SingleLabels
lane_row_kind_of (PointerRow line) = SingleLabels
lane_row_kind_of (HangingRow line x) = SingleLabels
lane_row_kind_of (UnderlineRow line m) = Underline m
lane_row_kind_of _ = EmptyOrBreak

-- the lanes of a kind of row, from left to right, each from the lane mark in it
unfoldable pub inner_gutter : RowContext → ℕ → LaneRowKind → Lanes → Stream
inner_gutter context leading row lanes =
    flat_map
    (λ lane. lane_characters context.severity context.chars (row_crossing row lane)
    (style_of_lane_mark (lane_mark_in lanes.lane_marks lane))
    (shape_of (row_shape context.layout leading row lane) (lane_mark_in lanes.lane_marks lane)))
    (range_with_len 0 lanes.count)

-- left of the lanes: the outer gutter, in a source row with the line's number, and the border
abbrev pub before_lanes : RowContext → Row → Stream
before_lanes context (SourceRow line) =
    outer_gutter_number context.padding line.number ++ border_left context.chars
before_lanes context (BreakRow lanes) =
    outer_gutter context.padding ++ border_left_break context.chars
before_lanes context _ = outer_gutter context.padding ++ border_left context.chars

-- what a row of a snippet begins with: the outer gutter, the border and these lanes
abbrev pub gutters : RowContext → Row → Lanes → Stream
gutters context row lanes =
    before_lanes context row
    ++ inner_gutter context (leading_of_row row) (lane_row_kind_of row) lanes

-- ---- the text of a row

-- the characters of a line
abbrev pub line_metrics : RowContext → Line → List Metrics
line_metrics context line = char_metrics context.tab_width line.text

-- the characters of a line, and the placeholder after the last one
abbrev pub line_metrics_to_end : RowContext → Line → List Metrics
line_metrics_to_end context line = char_metrics_to_end context.tab_width line.text

-- the characters of a line that begin before a byte index
abbrev pub metrics_before : ℕ → List Metrics → List Metrics
metrics_before byte_index cs = filter (λ (c : Metrics). nat_lt c.byte_index byte_index) cs

-- the characters of a line that begin at a byte index or before it
abbrev pub metrics_up_to : ℕ → List Metrics → List Metrics
metrics_up_to byte_index cs = filter (λ (c : Metrics). nat_le c.byte_index byte_index) cs

-- ---- underlines

-- a multi-line label covers the character on this line
abbrev pub multi_label_covers : Metrics → MultiLabel → Bool
multi_label_covers c (Top start) = nat_le start c.byte_index
multi_label_covers c Left = true
multi_label_covers c (Bottom end message) = nat_le (c.byte_index + c.bytes) end

-- the style of a character of the source: primary where a primary label covers it, else none
abbrev pub source_style : Line → Metrics → Option LabelStyle
source_style line c =
    if list_any (λ x. is_primary x && covers x c) line.labels
    || list_any (λ (m : LaneMark). is_primary_style m.style && multi_label_covers c m.multi_label)
    line.lanes.lane_marks
    then Some Primary else None

-- a character of the source as it is written: a tab as spaces
unfoldable pub source_glyph : Metrics → Stream
source_glyph c = if c.ch == byte "\t" then spaces c.unicode_width else glyph c.ch

-- the text of a source row
unfoldable pub colored_text : RowContext → Line → Stream
colored_text context line =
    styled context.severity (source_style line) source_glyph (line_metrics context line)

-- the carets under these characters, and spaces where no label is, up to the greatest end
unfoldable pub carets : RowContext → List LabelModel → List Metrics → Stream
carets context labels cs =
    styled context.severity (style_under labels)
    (λ c. repeated c.unicode_width (caret_for context.chars (style_under labels c)))
    (metrics_before (max_label_end labels) cs)

-- after the carets a space and the trailing message, if there is one
unfoldable pub trailing_message : Severity → Option LabelModel → Stream
trailing_message severity None = []
trailing_message severity (Some x) = space ++ label_message severity x.style x.message

-- ---- pointers

-- a label starts in the character
abbrev pub starts_in : Metrics → LabelModel → Bool
starts_in c x = nat_le c.byte_index x.start && nat_lt x.start (c.byte_index + c.bytes)

-- the greatest start of the labels, 0 where there is none
abbrev pub max_label_start : List LabelModel → ℕ
max_label_start labels = fold (λ m (x : LabelModel). max m x.start) 0 labels

-- a pointer of this style in the first cell of a character, or spaces for none
unfoldable pub pointer_glyphs : RowContext → Option LabelStyle → Metrics → Stream
pointer_glyphs context None c = spaces c.unicode_width
pointer_glyphs context (Some style) c =
    label_glyph context.severity style context.chars.pointer_left ++ spaces (c.unicode_width - 1)

-- the pointers under these characters, up to the greatest start: where hanging labels start
unfoldable pub pointers : RowContext → List LabelModel → List Metrics → Stream
pointers context labels cs =
    flat_map (λ c. pointer_glyphs context (style_of_any (starts_in c) (hanging_labels labels)) c)
    (metrics_up_to (max_label_start labels) cs)

-- the caret under a multi-line label's start
abbrev pub start_caret : Chars → LabelStyle → ℕ
start_caret chars Primary = chars.multi_primary_caret_start
start_caret chars Secondary = chars.multi_secondary_caret_start

-- the caret under a multi-line label's end
abbrev pub end_caret : Chars → LabelStyle → ℕ
end_caret chars Primary = chars.multi_primary_caret_end
end_caret chars Secondary = chars.multi_secondary_caret_end

-- a space and the message, where there is one
unfoldable pub underline_message : Stream → Stream
underline_message [] = []
underline_message (p ∷ ps) = space ++ (p ∷ ps)

-- an underline from its corner on: a run up to the last character that begins at or before the
-- start, or before the end, and the caret; after an end the message
unfoldable pub underline : Chars → LabelStyle → List Metrics → MultiLabel → Stream
underline chars style cs (Top start) =
    repeated (width_of (metrics_up_to start cs)) chars.multi_top ++ glyph (start_caret chars style)
underline chars style cs Left = []
underline chars style cs (Bottom end message) =
    repeated (width_of (metrics_before end cs)) chars.multi_bottom ++ glyph (end_caret chars style)
    ++ underline_message message
