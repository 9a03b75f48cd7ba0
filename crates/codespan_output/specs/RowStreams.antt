-- The stream of each row, and of many. Those that are unfoldable stay folded in a proof unless it
-- unfolds them: calls that write one after another then match their parts from left to right.
use Rattle.std.specs.Prelude.{ℕ, List, [], ◌∷◌, ◌++◌, flat_map, Option, Some, None}
use Rattle.std.specs.Prelude.{codes}
use Rattle.codespan_output.specs.Types.{Severity, Chars}
use Rattle.codespan_core.specs.Diagnostics.{severity_name}
use Rattle.codespan_core.specs.Streams.{Stream, style_mark, glyph, byte_stream, space, newline}
use Rattle.codespan_core.specs.declared.term.config.style_mark.StyleMark.TheVariants.{Header}
use Rattle.codespan_core.specs.declared.term.config.style_mark.StyleMark.TheVariants.{HeaderMessage}
use Rattle.codespan_core.specs.declared.term.config.style_mark.StyleMark.TheVariants.{NoteBullet}
use Rattle.codespan_core.specs.declared.term.config.style_mark.StyleMark.TheVariants.{SourceBorder}
use Rattle.codespan_core.specs.declared.term.config.style_mark.StyleMark.TheVariants.{Label, Reset}
use Rattle.codespan_core.specs.SnippetStarts.{start_text}
use Rattle.codespan_output.specs.Rows.{Locus, HeaderText, RowContext, Row, HeaderRow}
use Rattle.codespan_output.specs.Rows.{SnippetStartRow, EmptyRow, BreakRow, SourceRow, CaretRow}
use Rattle.codespan_output.specs.Rows.{PointerRow, HangingRow, UnderlineRow, FirstNoteRow}
use Rattle.codespan_output.specs.Rows.{LaterNoteRow, FinalRow, trailing_label}
use Rattle.codespan_output.specs.RowParts.{snippet_locus, outer_gutter, label_message, line_metrics}
use Rattle.codespan_output.specs.RowParts.{line_metrics_to_end, colored_text, carets}
use Rattle.codespan_output.specs.RowParts.{trailing_message, pointers, metrics_before, underline}
use Rattle.codespan_output.specs.RowParts.{gutters}

-- ---- rows, before their newlines

-- the code in brackets, where there is one that is not empty
unfoldable pub bracketed : Option (List ℕ) → Stream
bracketed None = []
bracketed (Some []) = []
bracketed (Some (c ∷ cs)) =
    byte_stream (codes "[") ++ byte_stream (c ∷ cs) ++ byte_stream (codes "]")

-- the locus before a header, where there is one
unfoldable pub header_locus : Option Locus → Stream
header_locus None = []
header_locus (Some locus) = snippet_locus locus ++ byte_stream (codes ": ")

-- the header: the locus, the severity, the code and the message
unfoldable pub header_row : Severity → Option Locus → HeaderText → Stream
header_row severity locus header_text =
    header_locus locus ++ style_mark (Header severity) ++ byte_stream (severity_name severity)
    ++ bracketed header_text.code
    ++ style_mark HeaderMessage ++ byte_stream (codes ": ") ++ byte_stream header_text.message
    ++ style_mark Reset

-- the start of a file's snippet
unfoldable pub snippet_start_row : Chars → ℕ → Locus → Stream
snippet_start_row chars padding locus =
    outer_gutter padding ++ style_mark SourceBorder ++ byte_stream (start_text chars.snippet_start)
    ++ style_mark Reset ++ space ++ snippet_locus locus

-- the first row of a note
unfoldable pub first_note_row : Chars → ℕ → List ℕ → Stream
first_note_row chars padding note_line =
    outer_gutter padding ++ style_mark NoteBullet ++ glyph chars.note_bullet ++ style_mark Reset
    ++ space ++ byte_stream note_line

-- a later row of a note
unfoldable pub later_note_row : ℕ → List ℕ → Stream
later_note_row padding note_line = outer_gutter padding ++ space ++ space ++ byte_stream note_line

-- the stream of a row
abbrev pub stream_of : RowContext → Row → Stream
stream_of context (HeaderRow locus header_text) = header_row context.severity locus header_text
stream_of context (SnippetStartRow locus) = snippet_start_row context.chars context.padding locus
stream_of context (EmptyRow lanes) = gutters context (EmptyRow lanes) lanes
stream_of context (BreakRow lanes) = gutters context (BreakRow lanes) lanes
stream_of context (SourceRow line) =
    gutters context (SourceRow line) line.lanes ++ space ++ colored_text context line
stream_of context (CaretRow line) =
    gutters context (CaretRow line) line.lanes ++ space
    ++ carets context line.labels (line_metrics_to_end context line)
    ++ trailing_message context.severity (trailing_label line.labels)
stream_of context (PointerRow line) =
    gutters context (PointerRow line) line.lanes ++ space
    ++ pointers context line.labels (line_metrics context line)
stream_of context (HangingRow line x) =
    gutters context (HangingRow line x) line.lanes ++ space
    ++ pointers context line.labels (metrics_before x.start (line_metrics context line))
    ++ label_message context.severity x.style x.message
stream_of context (UnderlineRow line m) =
    gutters context (UnderlineRow line m) line.lanes
    ++ style_mark (Label context.severity m.style)
    ++ underline context.chars m.style (line_metrics context line) m.multi_label ++ style_mark Reset
stream_of context (FirstNoteRow note_line) = first_note_row context.chars context.padding note_line
stream_of context (LaterNoteRow note_line) = later_note_row context.padding note_line
stream_of context FinalRow = []

-- the stream of many rows, each ended by one newline
abbrev pub stream_of_rows : RowContext → List Row → Stream
stream_of_rows context rows = flat_map (λ row. stream_of context row ++ newline) rows
