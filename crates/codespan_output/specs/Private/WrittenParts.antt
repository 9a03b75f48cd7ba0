-- Parts of rows, by the arguments of the functions that write them.
use Rattle.std.specs.Prelude.{ℕ, List, ◌++◌, filter, Option, None, Some}
use Rattle.std.specs.Option.{option_map}
use Rattle.codespan_output.specs.Types.{LabelStyle, Severity}
use Rattle.codespan_core.specs.Labels.{has_message}
use Rattle.codespan_core.specs.Streams.{Stream, byte_stream, newline, style_mark, glyph, space}
use Rattle.codespan_core.specs.declared.term.config.style_mark.StyleMark.TheVariants.{NoteBullet}
use Rattle.codespan_core.specs.declared.term.config.style_mark.StyleMark.TheVariants.{Reset}
use Rattle.codespan_output.specs.declared.char_metrics.Metrics.{Metrics}
use Rattle.codespan_output.specs.CharMetrics.{char_metrics_to_end}
use Rattle.codespan_output.specs.Arguments.{SingleLabelTuple, LaneMarkTuple, single_label_view}
use Rattle.codespan_output.specs.Arguments.{single_label_views, lane_mark_view}
use Rattle.codespan_output.specs.Lanes.{crossing_characters, label_glyph}
use Rattle.codespan_output.specs.Rows.{hanging_labels}
use Rattle.codespan_output.specs.RowParts.{carets, outer_gutter, label_message}
use Rattle.codespan_output.specs.RowStreams.{stream_of_rows}
use Rattle.codespan_output.specs.declared.rows.line.RowContext as rust_context
use Rattle.codespan_output.specs.declared.rows.line.Line as rust_line
use Rattle.codespan_output.specs.Private.LineViews.{context_view, line_view}
use Rattle.codespan_output.specs.Private.RowLabels.{hanging_stream}
use Rattle.codespan_output.specs.Private.PointerLists.{pointers_before, spaced}
use Rattle.codespan_output.specs.Private.LineCharacters.{char_input, pointers_of}
use Rattle.codespan_output.specs.Private.LineRows.{caret_rows, pointer_and_hanging_rows}

-- ---- the lanes of a row

-- the two characters of a lane that is not empty: the underline that crosses it, if one does, or a
-- space, and its own character
abbrev pub lane_glyph_stream : rust_context.RowContext → Option LaneMarkTuple → LabelStyle
    → ℕ
    → Stream
lane_glyph_stream x crossing style own =
    crossing_characters x.severity x.chars.now (option_map lane_mark_view crossing) 1
    ++ label_glyph x.severity style own

-- ---- the rows of a note

-- the bullet of a row of a note, or a space where it has none
unfoldable pub note_bullet : Option ℕ → Stream
note_bullet None = space
note_bullet (Some c) = style_mark NoteBullet ++ glyph c ++ style_mark Reset

-- a row of a note, with its newline
abbrev pub note_row_stream : ℕ → Option ℕ → List ℕ → Stream
note_row_stream padding bullet note_line =
    outer_gutter padding ++ note_bullet bullet ++ space ++ byte_stream note_line ++ newline

-- ---- the rows under a line

-- the characters of a line, and the placeholder after the last one
abbrev pub line_metrics_to_end_view : rust_context.RowContext → rust_line.Line → List Metrics
line_metrics_to_end_view x line = char_metrics_to_end x.tab_width line.text.now

-- the carets of labels under characters
abbrev pub carets_stream : rust_context.RowContext → List SingleLabelTuple → List Metrics
    → Stream
carets_stream x labels cs = carets (context_view x) (single_label_views labels) cs

-- the caret row of a line that has labels
abbrev pub caret_rows_stream : rust_context.RowContext → rust_line.Line → Stream
caret_rows_stream x line =
    stream_of_rows (context_view x)
    (caret_rows (line_view line) (single_label_views line.labels.now))

-- the pointers under the characters that begin before a byte index, and spaces up to the column
-- `edge`
abbrev pub pointers_before_stream : rust_context.RowContext → rust_line.Line → ℕ → ℕ
    → Stream
pointers_before_stream x line byte_index edge =
    spaced (context_view x) edge 0 (pointers_before byte_index (pointers_of (char_input x line)))

-- a label's message, in its style
abbrev pub label_message_stream : Severity → SingleLabelTuple → Stream
label_message_stream severity x =
    label_message severity (single_label_view x).style (single_label_view x).message

-- the rows of the messages of these labels, the last one first
abbrev pub hanging_rows_stream : rust_context.RowContext → rust_line.Line
    → List SingleLabelTuple
    → Stream
hanging_rows_stream x line labels =
    hanging_stream (context_view x) (line_view line)
    (filter has_message (single_label_views labels))

-- the pointer row and the rows of all messages of the line that hang, or nothing where none hangs
abbrev pub pointer_and_hanging_rows_stream : rust_context.RowContext → rust_line.Line → Stream
pointer_and_hanging_rows_stream x line =
    stream_of_rows (context_view x)
    (pointer_and_hanging_rows (line_view line)
    (hanging_labels (single_label_views line.labels.now)))
