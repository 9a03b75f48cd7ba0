-- The rows of an output are read from its text, for the clause of
-- `laws::sources_and_output_give_texts`.
use Rattle.codespan_core.proofs.Std.{◌≡◌, ◌∙◌, ℕ, ◌<◌, ◌^◌, ◌==◌}
use Rattle.codespan_core.proofs.Std.{Bool, true, false, List, [], ◌∷◌, ◌++◌}
use Rattle.codespan_core.proofs.Std.{map, flat_map, refl, sym, ap, ap₂, subst, arith, codes}
use Rattle.codespan_core.proofs.Std.{append_assoc, AllByRecursion, nat_tests, Option, None}
use Rattle.codespan_core.proofs.Std.{decimal, cond_both, drop, list_any}
use Rattle.codespan_core.proofs.Std.{◌||◌, encode_utf8, true≢false, append-nil}
use Rattle.codespan_core.specs.Streams.{text_of}
use Rattle.codespan_core.specs.SnippetStarts.{start_text}
use Rattle.codespan_output.specs.Rows.{Locus}
use Rattle.codespan_output.specs.RowParts.{snippet_locus}
use Rattle.codespan_output.specs.RowStreams.{header_row, header_locus, bracketed}
use Rattle.codespan_output.proofs.Utf8.Texts.{text_of-append, text_of-byte_stream}
use Rattle.codespan_output.proofs.Utf8.Texts.{text_of-style_mark}
use Rattle.codespan_edits.specs.declared.rows.RowSign.{RowSign}
use Rattle.codespan_edits.specs.declared.rows.RowSign.TheVariants.{Kept, Removed, Added}
use Rattle.codespan_suggestions.specs.DrawnFiles.{DrawnFile}
use Rattle.codespan_suggestions.specs.DrawnText.{end_text, escaped}
use Rattle.codespan_suggestions.specs.SuggestionRows.{Row, RowSettings, separated}
use Rattle.codespan_suggestions.specs.SuggestionRows.{file_rows, rich_rows}
use Rattle.codespan_suggestions.specs.SuggestionRows.{stream_of_rows}
use Rattle.codespan_suggestions.specs.SuggestionRows.Row.{HeaderRow, StartRow, EmptyRow, BreakRow}
use Rattle.codespan_suggestions.specs.SuggestionRows.Row.{LineRow, EndRow, FinalRow}
use Rattle.codespan_suggestions.specs.ReadOutput.{row_read, is_gutter, is_digit, text_rows}
use Rattle.codespan_suggestions.specs.ReadOutput.{output_read, files_read}
use Rattle.codespan_suggestions.specs.ReadableChars.{AreReadable, IsOneRow}
use Rattle.codespan_suggestions.proofs.ReadLemmas.{number_cells, HasCells, cells-gutter}
use Rattle.codespan_suggestions.proofs.ReadLemmas.{decimal-numeral, rows-cut}
use Rattle.codespan_suggestions.proofs.ReadRows.{sign_bytes}
use Rattle.codespan_suggestions.proofs.ReadTexts.{all-append}
use Rattle.codespan_suggestions.proofs.ReadFiles.{reading_of, file_readings, all-files}
use Rattle.codespan_suggestions.proofs.ReadStreams.{Fits, row-reads, row_text, rows-text, text-line}
use Rattle.codespan_suggestions.proofs.ReadStreams.{text-end, text-empty, text-broken, text-start}

-- ---- texts without newlines

pub one-by : (bs : List ℕ) → list_any (λ b. b == 10) bs ≡ false → IsOneRow bs
one-by [] none = tt
one-by (b ∷ bs) none = by (b == 10) refl none (one-by bs) where
  by : (t : Bool) → (b == 10) ≡ t → t || list_any (λ c. c == 10) bs ≡ false
      → (list_any (λ c. c == 10) bs ≡ false → IsOneRow bs) → IsOneRow (b ∷ bs)
  by true is h rest = absurd (true≢false h)
  by false is h rest = (is, rest h)

pub one-then : (xs ys : List ℕ) → IsOneRow xs → IsOneRow ys → IsOneRow (xs ++ ys)
one-then = all-append (λ b. (b == 10) ≡ false)

gutter-one : (cells : List ℕ) → AllByRecursion (λ b. is_gutter b ≡ true) cells
    → IsOneRow cells
gutter-one [] all = tt
gutter-one (c ∷ cs) all = (
  let gutter = all.0 in let e : (c == 10) ≡ false = grind (arith, nat_tests, gutter) in e,
  gutter-one cs all.1,
)

digits-one : (ds : List ℕ) → AllByRecursion (λ d. is_digit d ≡ true) ds → IsOneRow ds
digits-one [] all = tt
digits-one (d ∷ ds) all = (
  let digit = all.0 in let e : (d == 10) ≡ false = grind (arith, nat_tests, digit) in e,
  digits-one ds all.1,
)

one-cells : (padding : ℕ) (o : Option ℕ) → HasCells padding o
    → IsOneRow (number_cells padding o)
one-cells padding o has = gutter-one (number_cells padding o) (cells-gutter padding o has)

one-escape : (b : ℕ) → IsOneRow (escaped b)
one-escape b =
    cond_both (b == 10) (codes "\\n") _ IsOneRow (λ _. one-by (codes "\\n") refl)
    (λ _. cond_both (b == 13) (codes "\\r") (codes "\\0") IsOneRow
    (λ _. one-by (codes "\\r") refl) (λ _. one-by (codes "\\0") refl))

one-escapes : (bs : List ℕ) → IsOneRow (flat_map escaped bs)
one-escapes [] = tt
one-escapes (b ∷ bs) =
    one-then (escaped b) (flat_map escaped bs) (one-escape b) (one-escapes bs)

one-end : (end : List ℕ) → IsOneRow (end_text end)
one-end [] = one-by (codes "no newline at end of file") refl
one-end (b ∷ bs) =
    one-then (codes "ends with ") (flat_map escaped (b ∷ bs))
    (one-by (codes "ends with ") refl) (one-escapes (b ∷ bs))

one-sign : (sign : RowSign) → IsOneRow (sign_bytes sign)
one-sign Kept = one-by (codes "   ") refl
one-sign Removed = one-by (codes " - ") refl
one-sign Added = one-by (codes " + ") refl

pub decimal-one : (n : ℕ) → n < 2 ^ 64 → IsOneRow (decimal n)
decimal-one n few = digits-one (decimal n) (decimal-numeral n few).digits

-- a locus has no newline
pub locus-one : (locus : Locus) → IsOneRow locus.name → locus.location.line_number < 2 ^ 64
    → locus.location.column_number < 2 ^ 64 → IsOneRow (text_of (snippet_locus locus))
unfolding snippet_locus
locus-one locus name line column =
    let ls = decimal locus.location.line_number in
    let cs = decimal locus.location.column_number in
    let is : text_of (snippet_locus locus)
    ≡ locus.name ++ (codes ":" ++ (ls ++ (codes ":" ++ cs))) =
    simp (text_of-append, text_of-byte_stream, append_assoc) in
    subst IsOneRow (sym is)
    (one-then locus.name _ name
    (one-then (codes ":") _ (one-by (codes ":") refl)
    (one-then ls _ (decimal-one locus.location.line_number line)
    (one-then (codes ":") cs (one-by (codes ":") refl)
    (decimal-one locus.location.column_number column)))))

module _ (settings : RowSettings) (ok : AreReadable settings.chars) where
  one-blank : IsOneRow (number_cells settings.padding None ++ number_cells settings.padding None)
  one-blank =
      one-then (number_cells settings.padding None) (number_cells settings.padding None)
      (one-cells settings.padding None tt) (one-cells settings.padding None tt)

  row-one : (row : Row) → Fits settings row → IsOneRow (row_text settings row)
  row-one (HeaderRow locus) fits = absurd fits
  row-one (StartRow locus) fits =
      subst IsOneRow (sym (text-start settings locus))
      (one-then _ _ one-blank
      (one-then (start_text settings.chars.snippet_start) (32 ∷ text_of (snippet_locus locus))
      ok.start_row (refl, fits)))
  row-one EmptyRow fits =
      subst IsOneRow (sym (text-empty settings))
      (one-then _ _ one-blank
      (one-then (encode_utf8 settings.chars.source_border_left) [] ok.border.one_row tt))
  row-one BreakRow fits =
      subst IsOneRow (sym (text-broken settings)) (one-then _ _ one-blank ok.break.one_row)
  row-one (LineRow r) fits =
      subst IsOneRow (sym (text-line settings r))
      (one-then _ _
      (one-then _ _ (one-cells settings.padding r.old_number fits.0)
      (one-cells settings.padding r.new_number fits.1))
      (one-then (encode_utf8 settings.chars.source_border_left) _ ok.border.one_row
      (one-then (sign_bytes r.row.sign) _ (one-sign r.row.sign) fits.2)))
  row-one (EndRow end) fits =
      subst IsOneRow (sym (text-end settings end))
      (one-then _ _ one-blank
      (one-then (encode_utf8 settings.chars.source_border_left) _ ok.border.one_row
      (one-then (codes " \\ ") (end_text end) (one-by (codes " \\ ") refl) (one-end end))))
  row-one FinalRow fits = tt

  header-one : IsOneRow settings.message → IsOneRow (row_text settings (HeaderRow None))
  unfolding header_row header_locus bracketed
  header-one one =
      let is : row_text settings (HeaderRow None)
      ≡ codes "help" ++ (codes ": " ++ settings.message) =
      simp (text_of-append, text_of-style_mark, text_of-byte_stream, append_assoc, append-nil) in
      subst IsOneRow (sym is)
      (one-then (codes "help") (codes ": " ++ settings.message) (one-by (codes "help") refl)
      (one-then (codes ": ") settings.message (one-by (codes ": ") refl) one))

  rows-one : (rows : List Row) → AllByRecursion (Fits settings) rows
      → AllByRecursion IsOneRow (map (row_text settings) rows)
  rows-one [] all = tt
  rows-one (r ∷ rs) all = (row-one r all.0, rows-one rs all.1)

  rows-read : (rows : List Row) → AllByRecursion (Fits settings) rows
      → map (row_read settings.chars) (map (row_text settings) rows)
      ≡ map (reading_of settings.tab_width) rows
  rows-read [] all = refl
  rows-read (r ∷ rs) all =
      ap₂ (λ x xs. x ∷ xs) (row-reads settings ok r all.0) (rows-read rs all.1)

  -- an output after its header is read as its rows
  pub output-reads : (files : List DrawnFile) → IsOneRow settings.message
      → AllByRecursion (Fits settings) (separated EmptyRow (map file_rows files) ++ FinalRow ∷ [])
      → output_read settings.chars (text_of (stream_of_rows settings (rich_rows files)))
      ≡ map (file_readings settings.tab_width) files
  output-reads files one all =
      let rest = separated EmptyRow (map file_rows files) ++ FinalRow ∷ [] in
      let cut : text_rows (text_of (stream_of_rows settings (rich_rows files)))
      ≡ row_text settings (HeaderRow None) ∷ map (row_text settings) rest =
      ap text_rows (rows-text settings (HeaderRow None ∷ rest))
      ∙ rows-cut (map (row_text settings) (HeaderRow None ∷ rest))
      (header-one one, rows-one rest all) in
      ap (λ xs. files_read (map (row_read settings.chars) (drop 1 xs))) cut
      ∙ (ap files_read (rows-read rest all) ∙ all-files settings.tab_width files)
