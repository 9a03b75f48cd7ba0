-- What the calls of `Renderer` render, by their arguments; `render_empty` renders a newline.
use Rattle.std.specs.Prelude.{ℕ, List, ◌∷◌, ◌++◌, Option, [], flat_map}
use Rattle.std.specs.Option.{option_map}
use Rattle.std.specs.Borrow.{Bor}
use Rattle.std.specs.Str.Lines.{lines}
use Rattle.codespan_output.specs.Types.{Severity, Config, Chars}
use Rattle.codespan_core.specs.Streams.{Stream, newline}
use Rattle.codespan_output.specs.declared.arguments.Locus as rust_locus
use Rattle.codespan_output.specs.CharMetrics.{text_without_line_end}
use Rattle.codespan_output.specs.Arguments.{SingleLabelTuple, LaneMarkTuple, lanes_of, locus_view}
use Rattle.codespan_output.specs.Arguments.{single_label_views, text_now}
use Rattle.codespan_output.specs.OutputStreams.{context_of}
use Rattle.codespan_output.specs.Rows.{Line, rows_of, EmptyRow, BreakRow}
use Rattle.codespan_output.specs.RowStreams.{header_row, snippet_start_row, stream_of_rows}
use Rattle.codespan_output.specs.RowStreams.{first_note_row, later_note_row, stream_of}

-- the header of a diagnostic
abbrev pub rendered_header : Option (Bor rust_locus.Locus) → Severity → Option (Bor (List ℕ))
    → List ℕ → Stream
rendered_header locus severity code message =
    header_row severity (option_map (λ (x : Bor rust_locus.Locus). locus_view x.now) locus)
    (record { code = option_map text_now code; message = message }) ++ newline

-- the start of a file's snippet
abbrev pub rendered_start : Config → ℕ → rust_locus.Locus → Stream
rendered_start config padding locus =
    snippet_start_row config.chars padding (locus_view locus) ++ newline

-- a line of the source, with its single-line labels and the lane marks on it
abbrev pub source_line : ℕ → List ℕ → List SingleLabelTuple → ℕ → List LaneMarkTuple
    → Line
source_line number source labels num_multi_labels lane_marks = record {
  number = number;
  text = text_without_line_end source;
  labels = single_label_views labels;
  lanes = lanes_of num_multi_labels lane_marks;
}

-- all rows of a line of the source
abbrev pub rendered_source : Config → Severity → ℕ → Line → Stream
rendered_source config severity padding line =
    stream_of_rows (context_of config severity padding) (rows_of line)

-- an empty row of a snippet
abbrev pub rendered_snippet_empty : Config → Severity → ℕ → ℕ → List LaneMarkTuple
    → Stream
rendered_snippet_empty config severity padding num_multi_labels lane_marks =
    stream_of (context_of config severity padding)
    (EmptyRow (lanes_of num_multi_labels lane_marks)) ++ newline

-- the row of a break
abbrev pub rendered_break : Config → Severity → ℕ → ℕ → List LaneMarkTuple → Stream
rendered_break config severity padding num_multi_labels lane_marks =
    stream_of (context_of config severity padding)
    (BreakRow (lanes_of num_multi_labels lane_marks)) ++ newline

-- the rows of the lines of a note after the first
abbrev pub later_note_rows_stream : ℕ → List (List ℕ) → Stream
later_note_rows_stream padding note_lines =
    flat_map (λ note_line. later_note_row padding note_line ++ newline) note_lines

-- the rows of a note of these lines
abbrev pub note_stream : Chars → ℕ → List (List ℕ) → Stream
note_stream chars padding [] = []
note_stream chars padding (p ∷ ps) =
    first_note_row chars padding p ++ newline ++ later_note_rows_stream padding ps

-- the rows of a note
abbrev pub rendered_note : Config → ℕ → List ℕ → Stream
rendered_note config padding message = note_stream config.chars padding (lines message)
