-- The texts of rows, as they are read, for the clause of `laws::sources_and_output_give_texts`.
use Rattle.codespan_core.proofs.Std.{◌≡◌, ◌∙◌, ℕ, ◌+◌}
use Rattle.codespan_core.proofs.Std.{true, List, [], ◌∷◌, ◌++◌}
use Rattle.codespan_core.proofs.Std.{map, flat_map, refl, sym, ap, ap₂, codes}
use Rattle.codespan_core.proofs.Std.{append_assoc, append-nil, AllByRecursion, Option}
use Rattle.codespan_core.proofs.Std.{Some, None, encode_utf8}
use Rattle.codespan_core.specs.Streams.{Stream, text_of, byte_stream}
use Rattle.codespan_core.specs.Streams.{newline}
use Rattle.codespan_core.specs.SnippetStarts.{start_text}
use Rattle.codespan_output.specs.Types.{Chars}
use Rattle.codespan_output.specs.Rows.{Locus}
use Rattle.codespan_output.specs.RowParts.{outer_gutter, outer_gutter_number, border_left}
use Rattle.codespan_output.specs.RowParts.{border_left_break, snippet_locus}
use Rattle.codespan_output.specs.RowStreams.{snippet_start_row}
use Rattle.codespan_output.proofs.Utf8.Texts.{text_of-append, text_of-byte_stream, text_of-spaces}
use Rattle.codespan_output.proofs.Utf8.Texts.{text_of-style_mark}
use Rattle.codespan_edits.specs.Numbers.{NumberedRow}
use Rattle.codespan_edits.specs.declared.rows.RowSign.{RowSign}
use Rattle.codespan_edits.specs.declared.rows.RowSign.TheVariants.{Kept, Removed, Added}
use Rattle.codespan_suggestions.specs.DrawnText.{shown_text, end_text}
use Rattle.codespan_suggestions.specs.SuggestionRows.{Row, RowSettings, number_gutter, blank_gutter}
use Rattle.codespan_suggestions.specs.SuggestionRows.{signed_text, line_row, end_row, stream_of}
use Rattle.codespan_suggestions.specs.SuggestionRows.{stream_of_rows}
use Rattle.codespan_suggestions.specs.SuggestionRows.Row.{HeaderRow, StartRow, EmptyRow, BreakRow}
use Rattle.codespan_suggestions.specs.SuggestionRows.Row.{LineRow, EndRow, FinalRow}
use Rattle.codespan_suggestions.specs.ReadOutput.{row_read, is_gutter}
use Rattle.codespan_suggestions.specs.ReadOutput.RowRead.{EndStated}
use Rattle.codespan_suggestions.specs.ReadableChars.{AreReadable, IsOneRow}
use Rattle.codespan_suggestions.proofs.ReadLemmas.{number_cells, HasCells, cells-gutter}
use Rattle.codespan_suggestions.proofs.ReadLemmas.{gutter-append}
use Rattle.codespan_suggestions.proofs.ReadRows.{IsEndByte, sign_bytes, start-read, bordered}
use Rattle.codespan_suggestions.proofs.ReadRows.{break-read, final-read, line-read, end-back}
use Rattle.codespan_suggestions.proofs.ReadFiles.{reading_of}

-- ---- texts of streams

text-then : (s t : Stream) (a b : List ℕ) → text_of s ≡ a → text_of t ≡ b
    → text_of (s ++ t) ≡ a ++ b
text-then s t a b is are = text_of-append s t ∙ ap₂ (λ xs ys. xs ++ ys) is are

text-cells : (padding : ℕ) (o : Option ℕ)
    → text_of (number_gutter padding o) ≡ number_cells padding o
unfolding number_gutter outer_gutter outer_gutter_number
text-cells padding None = text_of-spaces (padding + 1)
text-cells padding (Some n) =
    simp (
      text_of-append,
      text_of-style_mark,
      text_of-spaces,
      text_of-byte_stream,
      append_assoc,
    )

-- the cells of a row without numbers
abbrev blank : ℕ → List ℕ
blank padding = number_cells padding None ++ number_cells padding None

text-blank : (padding : ℕ) → text_of (blank_gutter padding) ≡ blank padding
unfolding blank_gutter outer_gutter
text-blank padding =
    text-then (outer_gutter padding) (outer_gutter padding) _ _ (text_of-spaces (padding + 1))
    (text_of-spaces (padding + 1))

text-border : (chars : Chars)
    → text_of (border_left chars) ≡ encode_utf8 chars.source_border_left
unfolding border_left
text-border chars =
    simp (text_of-append, text_of-style_mark, text_of-byte_stream, append-nil)

text-break : (chars : Chars)
    → text_of (border_left_break chars) ≡ encode_utf8 chars.source_border_left_break
unfolding border_left_break
text-break chars =
    simp (text_of-append, text_of-style_mark, text_of-byte_stream, append-nil)

text-signed : (sign : RowSign) (text : List ℕ)
    → text_of (signed_text sign text) ≡ sign_bytes sign ++ text
unfolding signed_text
text-signed Kept text =
    text-then (byte_stream (codes "   ")) (byte_stream text) _ _
    (text_of-byte_stream (codes "   ")) (text_of-byte_stream text)
text-signed Removed text =
    simp (text_of-append, text_of-style_mark, text_of-byte_stream, append-nil)
text-signed Added text =
    simp (text_of-append, text_of-style_mark, text_of-byte_stream, append-nil)

module _ (settings : RowSettings) where
  abbrev border : List ℕ
  border = encode_utf8 settings.chars.source_border_left

  -- the text of a row
  abbrev pub row_text : Row → List ℕ
  row_text row = text_of (stream_of settings row)

  pub rows-text : (rows : List Row)
      → text_of (stream_of_rows settings rows)
      ≡ flat_map (λ row. row ++ 10 ∷ []) (map row_text rows)
  rows-text [] = refl
  rows-text (r ∷ rs) =
      text-then (stream_of settings r ++ newline) (stream_of_rows settings rs) _ _
      (text-then (stream_of settings r) newline _ (10 ∷ []) refl (text_of-byte_stream (10 ∷ [])))
      (rows-text rs)

  pub text-line : (r : NumberedRow)
      → text_of (line_row settings r)
      ≡ (number_cells settings.padding r.old_number ++ number_cells settings.padding r.new_number)
      ++ (border ++ (sign_bytes r.row.sign ++ shown_text settings.tab_width r.row.line))
  unfolding line_row
  text-line r = simp (text_of-append, text-cells, text-border, text-signed, append_assoc)

  pub text-end : (end : List ℕ)
      → text_of (end_row settings end)
      ≡ blank settings.padding ++ (border ++ (codes " \\ " ++ end_text end))
  unfolding end_row
  text-end end =
      simp (text_of-append, text-blank, text-border, text_of-byte_stream, append_assoc)

  pub text-empty : row_text EmptyRow ≡ blank settings.padding ++ (border ++ [])
  text-empty =
      text-then (blank_gutter settings.padding) (border_left settings.chars) _ _
      (text-blank settings.padding) (text-border settings.chars ∙ sym (append-nil border))

  pub text-broken : row_text BreakRow
      ≡ blank settings.padding ++ encode_utf8 settings.chars.source_border_left_break
  text-broken =
      text-then (blank_gutter settings.padding) (border_left_break settings.chars) _ _
      (text-blank settings.padding) (text-break settings.chars)

  pub text-start : (locus : Locus)
      → row_text (StartRow locus)
      ≡ blank settings.padding
      ++ (start_text settings.chars.snippet_start ++ (32 ∷ text_of (snippet_locus locus)))
  unfolding outer_gutter snippet_start_row
  text-start locus =
      simp (
        text_of-append,
        text_of-spaces,
        text_of-style_mark,
        text_of-byte_stream,
        append_assoc,
      )

  -- a row has no newline, its numbers have their cells, and an end is one
  abbrev pub Fits : Row → Type 0
  Fits (HeaderRow locus) = ⊥
  Fits (StartRow locus) = IsOneRow (text_of (snippet_locus locus))
  Fits (LineRow r) =
      HasCells settings.padding r.old_number × HasCells settings.padding r.new_number
      × IsOneRow (shown_text settings.tab_width r.row.line)
  Fits (EndRow end) = AllByRecursion IsEndByte end
  Fits _ = Unit {0}

  module _ (ok : AreReadable settings.chars) where
    blank-gutter : AllByRecursion (λ b. is_gutter b ≡ true) (blank settings.padding)
    blank-gutter =
        gutter-append (number_cells settings.padding None) (number_cells settings.padding None)
        (cells-gutter settings.padding None tt) (cells-gutter settings.padding None tt)

    pub row-reads : (row : Row) → Fits row
        → row_read settings.chars (row_text row) ≡ reading_of settings.tab_width row
    row-reads (HeaderRow locus) fits = absurd fits
    row-reads (StartRow locus) fits =
        ap (row_read settings.chars) (text-start locus)
        ∙ start-read settings.chars ok (blank settings.padding) blank-gutter
        (32 ∷ text_of (snippet_locus locus))
    row-reads EmptyRow fits =
        ap (row_read settings.chars) text-empty
        ∙ bordered settings.chars ok (blank settings.padding) blank-gutter []
    row-reads BreakRow fits =
        ap (row_read settings.chars) text-broken
        ∙ break-read settings.chars ok (blank settings.padding) blank-gutter
    row-reads (LineRow r) fits =
        ap (row_read settings.chars) (text-line r)
        ∙ line-read settings.chars ok settings.padding r.old_number r.new_number fits.0 fits.1
        r.row.sign (shown_text settings.tab_width r.row.line)
    row-reads (EndRow end) fits =
        ap (row_read settings.chars) (text-end end)
        ∙ (bordered settings.chars ok (blank settings.padding) blank-gutter
        (codes " \\ " ++ end_text end)
        ∙ ap EndStated (end-back end fits))
    row-reads FinalRow fits = final-read settings.chars ok
