-- The rows of the output of a suggestion, and the stream of each.
use Rattle.std.specs.Prelude.{ℕ, max, List, [], ◌∷◌, ◌++◌, map, flat_map, fold, Option}
use Rattle.std.specs.Prelude.{Some, None, if◌then◌else◌, codes}
use Rattle.std.specs.Option.{option_to_list}
use Rattle.std.specs.Str.{bytes_eq}
use Rattle.codespan_core.specs.Streams.{Stream, style_mark, byte_stream, space, newline}
use Rattle.codespan_core.specs.declared.term.config.style_mark.StyleMark.TheVariants.{Label, Reset}
use Rattle.codespan_output.specs.Types.{Chars, Primary}
use Rattle.codespan_core.specs.declared.diagnostic.Severity.TheVariants.{Help, Error, Note}
use Rattle.codespan_output.specs.Rows.{Locus}
use Rattle.codespan_output.specs.RowParts.{outer_gutter, outer_gutter_number, border_left}
use Rattle.codespan_output.specs.RowParts.{border_left_break}
use Rattle.codespan_output.specs.RowStreams.{header_row, snippet_start_row}
use Rattle.codespan_output.specs.Padding.{count_digits}
use Rattle.codespan_edits.specs.Numbers.{NumberedRow}
use Rattle.codespan_edits.specs.declared.rows.RowSign.{RowSign}
use Rattle.codespan_edits.specs.declared.rows.RowSign.TheVariants.{Kept, Removed, Added}
use Rattle.codespan_suggestions.specs.DrawnText.{shown_text, line_end, end_text}
use Rattle.codespan_suggestions.specs.DrawnFiles.{DrawnFile}

-- ---- rows

-- one row of an output
pub data Row : Type 0 where
  HeaderRow : Option Locus → Row
  StartRow : Locus → Row
  EmptyRow : Row
  BreakRow : Row
  LineRow : NumberedRow → Row
  EndRow : List ℕ → Row
  FinalRow : Row

-- lists put together, with a separator between two of them
abbrev pub separated : Row → List (List Row) → List Row
separated separator [] = []
separated separator (x ∷ xs) = x ++ flat_map (λ rows. separator ∷ rows) xs

-- the row of an end, if it is not the usual one
abbrev pub end_rows : List ℕ → List ℕ → List Row
end_rows usual end = if bytes_eq end usual then [] else EndRow end ∷ []

-- the rows of a drawn row: its line, and its line's end
abbrev pub line_rows : List ℕ → NumberedRow → List Row
line_rows usual r = LineRow r ∷ end_rows usual (line_end r.row.line)

-- the rows of a hunk
abbrev pub hunk_rows : List ℕ → List NumberedRow → List Row
hunk_rows usual hunk = flat_map (line_rows usual) hunk

-- the rows of a file: its start, an empty row, and its hunks with breaks between them
abbrev pub file_rows : DrawnFile → List Row
file_rows f =
    StartRow f.locus ∷ (EmptyRow ∷ separated BreakRow (map (hunk_rows f.usual_end) f.hunks))

-- the rows in rich style: the header, the files with empty rows between them, and a final row
abbrev pub rich_rows : List DrawnFile → List Row
rich_rows files =
    HeaderRow None ∷ (separated EmptyRow (map file_rows files) ++ FinalRow ∷ [])

-- a header for each file
abbrev pub header_rows : List DrawnFile → List Row
header_rows files = map (λ (file : DrawnFile). HeaderRow (Some file.locus)) files

-- the rows in medium and short style: a header for each file, or one alone
abbrev pub short_rows : List DrawnFile → List Row
short_rows [] = HeaderRow None ∷ []
short_rows (f ∷ fs) = header_rows (f ∷ fs)

-- ---- the padding width

-- the numbers that a row has
abbrev pub row_numbers : NumberedRow → List ℕ
row_numbers r = option_to_list r.old_number ++ option_to_list r.new_number

-- the digit counts of the numbers of a file
abbrev pub file_digits : DrawnFile → List ℕ
file_digits f = flat_map (flat_map (λ r. map count_digits (row_numbers r))) f.hunks

-- the greatest digit count of a number, 0 where there is none
abbrev pub padding_of : List DrawnFile → ℕ
padding_of files = fold max 0 (flat_map file_digits files)

-- ---- streams

-- what all rows of an output are rendered by
pub record RowSettings : Type 0 where
  pub chars : Chars
  pub tab_width : ℕ
  pub padding : ℕ
  pub message : List ℕ

-- the gutter of a number that a row may have
unfoldable pub number_gutter : ℕ → Option ℕ → Stream
number_gutter padding None = outer_gutter padding
number_gutter padding (Some n) = outer_gutter_number padding n

-- the gutter of a row without numbers
unfoldable pub blank_gutter : ℕ → Stream
blank_gutter padding = outer_gutter padding ++ outer_gutter padding

-- the text of a row, with its sign
unfoldable pub signed_text : RowSign → List ℕ → Stream
signed_text Kept text = byte_stream (codes "   ") ++ byte_stream text
signed_text Removed text =
    space ++ style_mark (Label Error Primary) ++ byte_stream (codes "- ") ++ byte_stream text
    ++ style_mark Reset
signed_text Added text =
    space ++ style_mark (Label Note Primary) ++ byte_stream (codes "+ ") ++ byte_stream text
    ++ style_mark Reset

-- the row of a line
unfoldable pub line_row : RowSettings → NumberedRow → Stream
line_row settings r =
    number_gutter settings.padding r.old_number ++ number_gutter settings.padding r.new_number
    ++ border_left settings.chars
    ++ signed_text r.row.sign (shown_text settings.tab_width r.row.line)

-- the row of a line's end
unfoldable pub end_row : RowSettings → List ℕ → Stream
end_row settings end =
    blank_gutter settings.padding ++ border_left settings.chars ++ byte_stream (codes " \\ ")
    ++ byte_stream (end_text end)

-- the stream of a row
abbrev pub stream_of : RowSettings → Row → Stream
stream_of settings (HeaderRow locus) =
    header_row Help locus (record { code = None; message = settings.message })
stream_of settings (StartRow locus) =
    outer_gutter settings.padding ++ snippet_start_row settings.chars settings.padding locus
stream_of settings EmptyRow = blank_gutter settings.padding ++ border_left settings.chars
stream_of settings BreakRow = blank_gutter settings.padding ++ border_left_break settings.chars
stream_of settings (LineRow r) = line_row settings r
stream_of settings (EndRow end) = end_row settings end
stream_of settings FinalRow = []

-- the stream of many rows, each ended by one newline
abbrev pub stream_of_rows : RowSettings → List Row → Stream
stream_of_rows settings rows = flat_map (λ row. stream_of settings row ++ newline) rows
