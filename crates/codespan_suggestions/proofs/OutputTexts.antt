-- The output of a suggestion is UTF-8, and no style mark of it is inside a character: for the
-- clause `utf8` of `emit_suggestion_to_write_style`.
use Rattle.codespan_core.proofs.Std.{◌≡◌, ℕ, zero, suc, ◌==◌, ◌&&◌, Bool, true, List, []}
use Rattle.codespan_core.proofs.Std.{◌∷◌, ◌++◌, map, flat_map, replicate, codes, refl, arith}
use Rattle.codespan_core.proofs.Std.{Option, Some, None, IfSome, IsScalar, IsUtf8, IsUtf8-nil}
use Rattle.codespan_core.proofs.Std.{AllByRecursion, cond_both, nat_lt, nat_tests, encode_utf8}
use Rattle.codespan_core.proofs.Std.{if◌then◌else◌, string_bytes}
use Rattle.std.specs.Str.{IsAscii}
use Rattle.std.specs.Str.{bytes_eq}
use Rattle.std.proofs.lemmas.Str.{IsUtf8-append, IsUtf8-encode, IsUtf8-from_ascii}
use Rattle.std.proofs.lemmas.Str.{IsUtf8-string_bytes}
use Rattle.std.proofs.lemmas.Str.Ascii.{IsAscii-cons, IsAscii-nil}
use Rattle.codespan_core.specs.SnippetStarts.{start_text}
use Rattle.codespan_core.specs.Streams.{byte_stream, newline}
use Rattle.codespan_core.specs.declared.diagnostic.Severity.TheVariants.{Error, Help, Note}
use Rattle.codespan_core.specs.declared.term.config.style_mark.StyleMark.TheVariants.{Header}
use Rattle.codespan_core.specs.declared.term.config.style_mark.StyleMark.TheVariants.{HeaderMessage}
use Rattle.codespan_core.specs.declared.term.config.style_mark.StyleMark.TheVariants.{Label, Reset}
use Rattle.codespan_core.specs.declared.term.config.style_mark.StyleMark.TheVariants.{SourceBorder}
use Rattle.codespan_output.specs.Types.{Config, DisplayStyle, Primary, Rich, Medium, Short}
use Rattle.codespan_output.specs.CharMetrics.{char_metrics, text_without_line_end}
use Rattle.codespan_output.specs.declared.char_metrics.Metrics.{Metrics}
use Rattle.codespan_output.specs.Rows.{Locus}
use Rattle.codespan_output.specs.RowParts.{snippet_locus}
use Rattle.codespan_output.specs.RowStreams.{bracketed, header_locus, header_row}
use Rattle.codespan_output.specs.RowStreams.{snippet_start_row}
use Rattle.codespan_output.specs.Utf8Laws.{CharsAreScalars, StreamIsUtf8}
use Rattle.codespan_output.proofs.Utf8.DrawnLines.{drawn-utf8}
use Rattle.codespan_output.proofs.Utf8.Lanes.{scalar-char_metrics}
use Rattle.codespan_output.proofs.Utf8.ListElements.{all-append, all-weaker}
use Rattle.codespan_output.proofs.Utf8.Streams.{followed, text-both, text-border_left}
use Rattle.codespan_output.proofs.Utf8.Streams.{text-border_left_break, text-byte_stream}
use Rattle.codespan_output.proofs.Utf8.Streams.{text-colon_space, text-each, text-locus}
use Rattle.codespan_output.proofs.Utf8.Streams.{text-newline, text-none, text-outer_gutter}
use Rattle.codespan_output.proofs.Utf8.Streams.{text-outer_gutter_number, text-severity}
use Rattle.codespan_output.proofs.Utf8.Streams.{text-space, text-style_mark}
use Rattle.codespan_edits.specs.Numbers.{NumberedRow}
use Rattle.codespan_edits.specs.RowViews.{numbered_row}
use Rattle.codespan_edits.specs.declared.hunks.Hunk.{Hunk}
use Rattle.codespan_edits.specs.declared.rows.DiffRow.{DiffRow}
use Rattle.codespan_edits.specs.declared.rows.RowSign.{RowSign}
use Rattle.codespan_edits.specs.declared.rows.RowSign.TheVariants.{Kept, Removed, Added}
use Rattle.codespan_suggestions.specs.DrawnFiles.{DrawnFile}
use Rattle.codespan_suggestions.specs.DrawnText.{end_text, escaped, line_end, shown_char}
use Rattle.codespan_suggestions.specs.DrawnText.{shown_text}
use Rattle.codespan_suggestions.specs.Private.FileViews.{file_view, hunk_view}
use Rattle.codespan_suggestions.specs.SuggestionOutput.{output_of, rows_in, settings_of}
use Rattle.codespan_suggestions.specs.SuggestionRows.{Row, RowSettings, separated, end_rows}
use Rattle.codespan_suggestions.specs.SuggestionRows.{line_rows, hunk_rows, file_rows, rich_rows}
use Rattle.codespan_suggestions.specs.SuggestionRows.{header_rows, short_rows, number_gutter}
use Rattle.codespan_suggestions.specs.SuggestionRows.{blank_gutter, signed_text, line_row, end_row}
use Rattle.codespan_suggestions.specs.SuggestionRows.{stream_of, stream_of_rows}
use Rattle.codespan_suggestions.specs.SuggestionRows.Row.{HeaderRow, StartRow, EmptyRow, BreakRow}
use Rattle.codespan_suggestions.specs.SuggestionRows.Row.{LineRow, EndRow, FinalRow}
use Rattle.codespan_suggestions.specs.declared.drawn_files.KeptFile.{KeptFile}

-- ---- texts

-- bytes of ASCII
is_ascii : List ℕ → Bool
is_ascii [] = true
is_ascii (b ∷ bs) = nat_lt b 128 && is_ascii bs

ascii : (bs : List ℕ) → is_ascii bs ≡ true → IsAscii bs
unfolding is_ascii
ascii [] e = IsAscii-nil
ascii (b ∷ bs) e =
    IsAscii-cons b bs (grind (arith, nat_tests)) (ascii bs (grind (arith, nat_tests)))

ascii-utf8 : (bs : List ℕ) → is_ascii bs ≡ true → IsUtf8 bs
ascii-utf8 bs e = IsUtf8-from_ascii bs (ascii bs e)

spaces-utf8 : (n : ℕ) → IsUtf8 (replicate n 32)
unfolding encode_utf8
spaces-utf8 zero = IsUtf8-nil
spaces-utf8 (suc n) =
    IsUtf8-append (32 ∷ []) (replicate n 32) (IsUtf8-encode 32 refl) (spaces-utf8 n)

-- characters as a row shows them
shown-utf8 : (cs : List Metrics) → AllByRecursion (λ (c : Metrics). IsScalar c.ch) cs
    → IsUtf8 (flat_map shown_char cs)
shown-utf8 [] h = IsUtf8-nil
shown-utf8 (c ∷ cs) h =
    IsUtf8-append (shown_char c) (flat_map shown_char cs)
    (cond_both (c.ch == 9) (replicate c.unicode_width 32) (encode_utf8 c.ch) IsUtf8
    (λ _. spaces-utf8 c.unicode_width) (λ _. IsUtf8-encode c.ch h.0)) (shown-utf8 cs h.1)

line-utf8 : (tab : ℕ) (line : List ℕ) → IsUtf8 line → IsUtf8 (shown_text tab line)
line-utf8 tab line u =
    let text = text_without_line_end line in
    shown-utf8 (char_metrics tab text) (scalar-char_metrics tab text (drawn-utf8 line u))

-- what is stated of an end
escape-utf8 : (b : ℕ) → IsUtf8 (escaped b)
unfolding is_ascii
escape-utf8 b =
    cond_both (b == 10) (codes "\\n") (if b == 13 then codes "\\r" else codes "\\0") IsUtf8
    (λ _. ascii-utf8 (codes "\\n") refl)
    (λ _. cond_both (b == 13) (codes "\\r") (codes "\\0") IsUtf8
    (λ _. ascii-utf8 (codes "\\r") refl) (λ _. ascii-utf8 (codes "\\0") refl))

escapes-utf8 : (bs : List ℕ) → IsUtf8 (flat_map escaped bs)
escapes-utf8 [] = IsUtf8-nil
escapes-utf8 (b ∷ bs) =
    IsUtf8-append (escaped b) (flat_map escaped bs) (escape-utf8 b) (escapes-utf8 bs)

end-utf8 : (end : List ℕ) → IsUtf8 (end_text end)
unfolding is_ascii
end-utf8 [] = ascii-utf8 (codes "no newline at end of file") refl
end-utf8 (b ∷ bs) =
    IsUtf8-append (codes "ends with ") (flat_map escaped (b ∷ bs))
    (ascii-utf8 (codes "ends with ") refl) (escapes-utf8 (b ∷ bs))

-- ---- rows

-- what a row is rendered from is a text
abbrev IsTextRow : Row → Type 0
IsTextRow (HeaderRow at) = IfSome at (λ (p : Locus). IsUtf8 p.name)
IsTextRow (StartRow at) = IsUtf8 at.name
IsTextRow (LineRow r) = IsUtf8 r.row.line
IsTextRow _ = Unit {0}

locus-text : (at : Option Locus) → IfSome at (λ (p : Locus). IsUtf8 p.name)
    → StreamIsUtf8 (header_locus at)
unfolding header_locus
locus-text None h = text-none
locus-text (Some p) h =
    text-both (snippet_locus p) (byte_stream (codes ": ")) (text-locus p h) text-colon_space

code-text : StreamIsUtf8 (bracketed None)
unfolding bracketed
code-text = text-none

signed : (sign : RowSign) (text : List ℕ) → IsUtf8 text → StreamIsUtf8 (signed_text sign text)
unfolding signed_text is_ascii
signed Kept text u =
    followed (text-byte_stream (codes "   ") (ascii-utf8 (codes "   ") refl))
    (text-byte_stream text u)
signed Removed text u =
    followed
    (followed
    (followed (followed text-space (text-style_mark (Label Error Primary)))
    (text-byte_stream (codes "- ") (ascii-utf8 (codes "- ") refl)))
    (text-byte_stream text u))
    (text-style_mark Reset)
signed Added text u =
    followed
    (followed
    (followed (followed text-space (text-style_mark (Label Note Primary)))
    (text-byte_stream (codes "+ ") (ascii-utf8 (codes "+ ") refl)))
    (text-byte_stream text u))
    (text-style_mark Reset)

gutter : (padding : ℕ) (number : Option ℕ) → StreamIsUtf8 (number_gutter padding number)
unfolding number_gutter
gutter padding None = text-outer_gutter padding
gutter padding (Some n) = text-outer_gutter_number padding n

blank : (padding : ℕ) → StreamIsUtf8 (blank_gutter padding)
unfolding blank_gutter
blank padding = followed (text-outer_gutter padding) (text-outer_gutter padding)

module _ (settings : RowSettings) (ok : CharsAreScalars settings.chars)
    (message : IsUtf8 settings.message) where
  text-row : (row : Row) → IsTextRow row → StreamIsUtf8 (stream_of settings row)
  unfolding header_row snippet_start_row line_row end_row is_ascii
  text-row (HeaderRow at) h =
      followed
      (followed
      (followed
      (followed
      (followed
      (followed
      (followed (locus-text at h) (text-style_mark (Header Help)))
      (text-severity Help))
      code-text)
      (text-style_mark HeaderMessage))
      text-colon_space)
      (text-byte_stream settings.message message))
      (text-style_mark Reset)
  text-row (StartRow at) h =
      followed (text-outer_gutter settings.padding)
      (followed
      (followed
      (followed
      (followed
      (followed (text-outer_gutter settings.padding) (text-style_mark SourceBorder))
      (text-byte_stream (start_text settings.chars.snippet_start) ok.snippet_start))
      (text-style_mark Reset))
      text-space)
      (text-locus at h))
  text-row EmptyRow h = followed (blank settings.padding) (text-border_left settings.chars ok)
  text-row BreakRow h =
      followed (blank settings.padding) (text-border_left_break settings.chars ok)
  text-row (LineRow r) h =
      followed
      (followed
      (followed (gutter settings.padding r.old_number) (gutter settings.padding r.new_number))
      (text-border_left settings.chars ok))
      (signed r.row.sign (shown_text settings.tab_width r.row.line)
      (line-utf8 settings.tab_width r.row.line h))
  text-row (EndRow end) h =
      followed
      (followed
      (followed (blank settings.padding) (text-border_left settings.chars ok))
      (text-byte_stream (codes " \\ ") (ascii-utf8 (codes " \\ ") refl)))
      (text-byte_stream (end_text end) (end-utf8 end))
  text-row FinalRow h = text-none

  text-rows : (rows : List Row) → AllByRecursion IsTextRow rows
      → StreamIsUtf8 (stream_of_rows settings rows)
  text-rows rows h =
      text-each (λ row. stream_of settings row ++ newline) rows
      (all-weaker IsTextRow (λ row. StreamIsUtf8 (stream_of settings row ++ newline))
      (λ row r. text-both (stream_of settings row) newline (text-row row r) text-newline) rows h)

-- ---- files

-- the lines and the name of a file are texts
record IsTextFile (f : DrawnFile) : Type 0 where
  name : IsUtf8 f.locus.name
  lines : AllByRecursion (AllByRecursion (λ (r : NumberedRow). IsUtf8 r.row.line)) f.hunks

later : (separator : Row) → IsTextRow separator → (xs : List (List Row))
    → AllByRecursion (AllByRecursion IsTextRow) xs
    → AllByRecursion IsTextRow (flat_map (λ rows. separator ∷ rows) xs)
later separator one [] h = tt
later separator one (x ∷ xs) h = (
  one,
  all-append IsTextRow x (flat_map (λ rows. separator ∷ rows) xs) h.0
      (later separator one xs h.1),
)

parts : (separator : Row) → IsTextRow separator → (xs : List (List Row))
    → AllByRecursion (AllByRecursion IsTextRow) xs
    → AllByRecursion IsTextRow (separated separator xs)
parts separator one [] h = tt
parts separator one (x ∷ xs) h =
    all-append IsTextRow x (flat_map (λ rows. separator ∷ rows) xs) h.0
    (later separator one xs h.1)

end-rows : (usual end : List ℕ) → AllByRecursion IsTextRow (end_rows usual end)
end-rows usual end =
    cond_both (bytes_eq end usual) [] (EndRow end ∷ []) (AllByRecursion IsTextRow) (λ _. tt)
    (λ _. (tt, tt))

hunk : (usual : List ℕ) (rows : List NumberedRow)
    → AllByRecursion (λ (r : NumberedRow). IsUtf8 r.row.line) rows
    → AllByRecursion IsTextRow (hunk_rows usual rows)
hunk usual [] h = tt
hunk usual (r ∷ rs) h =
    all-append IsTextRow (line_rows usual r) (hunk_rows usual rs)
    (h.0, end-rows usual (line_end r.row.line)) (hunk usual rs h.1)

hunks : (usual : List ℕ) (xs : List (List NumberedRow))
    → AllByRecursion (AllByRecursion (λ (r : NumberedRow). IsUtf8 r.row.line)) xs
    → AllByRecursion (AllByRecursion IsTextRow) (map (hunk_rows usual) xs)
hunks usual [] h = tt
hunks usual (x ∷ xs) h = (hunk usual x h.0, hunks usual xs h.1)

files-rows : (files : List DrawnFile) → AllByRecursion IsTextFile files
    → AllByRecursion (AllByRecursion IsTextRow) (map file_rows files)
files-rows [] h = tt
files-rows (f ∷ fs) h = (
  (
    h.0.name,
    (
      tt,
      parts BreakRow tt (map (hunk_rows f.usual_end) f.hunks)
          (hunks f.usual_end f.hunks h.0.lines),
    ),
  ),
  files-rows fs h.1,
)

headers : (files : List DrawnFile) → AllByRecursion IsTextFile files
    → AllByRecursion IsTextRow (header_rows files)
headers [] h = tt
headers (f ∷ fs) h = (h.0.name, headers fs h.1)

short : (files : List DrawnFile) → AllByRecursion IsTextFile files
    → AllByRecursion IsTextRow (short_rows files)
short [] h = (tt, tt)
short (f ∷ fs) h = headers (f ∷ fs) h

rows : (style : DisplayStyle) (files : List DrawnFile) → AllByRecursion IsTextFile files
    → AllByRecursion IsTextRow (rows_in style files)
rows Rich files h = (
  tt,
  all-append IsTextRow (separated EmptyRow (map file_rows files)) (FinalRow ∷ [])
      (parts EmptyRow tt (map file_rows files) (files-rows files h)) (tt, tt),
)
rows Medium files h = short files h
rows Short files h = short files h

-- ---- files that are kept

kept-rows : (rs : List DiffRow)
    → AllByRecursion (λ (r : NumberedRow). IsUtf8 r.row.line) (map numbered_row rs)
kept-rows [] = tt
kept-rows (r ∷ rs) = (IsUtf8-string_bytes r.line, kept-rows rs)

kept-hunks : (hs : List Hunk)
    → AllByRecursion (AllByRecursion (λ (r : NumberedRow). IsUtf8 r.row.line)) (map hunk_view hs)
kept-hunks [] = tt
kept-hunks (h ∷ hs) = (kept-rows h.rows.items, kept-hunks hs)

kept : (files : List KeptFile) → AllByRecursion IsTextFile (map file_view files)
kept [] = tt
kept (f ∷ fs) = (
  record { name = IsUtf8-string_bytes f.locus.name; lines = kept-hunks f.hunks.items },
  kept fs,
)

-- the output of files that are kept
pub kept-output : (config : Config) (message : List ℕ) (files : List KeptFile)
    → CharsAreScalars config.chars → IsUtf8 message
    → StreamIsUtf8 (output_of config message (map file_view files))
kept-output config message files ok u =
    let shown = map file_view files in
    text-rows (settings_of config message shown) ok u (rows_in config.display_style shown)
    (rows config.display_style shown (kept files))
