-- For the clause of `laws::borders_are_in_one_column`.
use Rattle.codespan_core.proofs.Std.{◌≡◌, ◌∙◌, ℕ, ◌+◌, ◌*◌, true, List, [], ◌∷◌, ◌++◌}
use Rattle.codespan_core.proofs.Std.{length, refl, sym, ap, subst, arith, codes, append-nil}
use Rattle.codespan_core.proofs.Std.{AllByRecursion, Option, None, encode_utf8, length-append, inl}
use Rattle.codespan_core.proofs.Std.{inr, string_bytes}
use Rattle.codespan_core.specs.SnippetStarts.{start_text}
use Rattle.codespan_core.specs.Streams.{text_of}
use Rattle.codespan_output.specs.RowParts.{snippet_locus}
use Rattle.codespan_suggestions.specs.DrawnFiles.{DrawnFile, context_of, drawn_file, drawn_files}
use Rattle.codespan_suggestions.specs.DrawnFiles.{has_hunk}
use Rattle.codespan_suggestions.specs.DrawnText.{shown_text, end_text}
use Rattle.codespan_suggestions.specs.EditedFiles.{edited_files}
use Rattle.codespan_suggestions.specs.SuggestionRows.{Row, RowSettings}
use Rattle.codespan_suggestions.specs.SuggestionRows.Row.{HeaderRow, StartRow, EmptyRow, BreakRow}
use Rattle.codespan_suggestions.specs.SuggestionRows.Row.{LineRow, EndRow, FinalRow}
use Rattle.codespan_suggestions.specs.SuggestionOutput.{settings_of}
use Rattle.codespan_suggestions.specs.ReadOutput.{is_gutter}
use Rattle.codespan_suggestions.specs.ReadingLaws.{CanBeRead, edits_in, shown_files}
use Rattle.codespan_suggestions.specs.BorderLaws.{IsInColumn, BordersAreInOneColumn}
use Rattle.codespan_suggestions.proofs.ReadLemmas.{number_cells, HasCells, cells-length}
use Rattle.codespan_suggestions.proofs.ReadLemmas.{cells-gutter, gutter-append}
use Rattle.codespan_suggestions.proofs.ReadRows.{sign_bytes}
use Rattle.codespan_suggestions.proofs.ReadStreams.{Fits, text-line, text-end, text-empty}
use Rattle.codespan_suggestions.proofs.ReadStreams.{text-broken, text-start}
use Rattle.codespan_suggestions.proofs.ReadCells.{IsDrawableFile, all-fit}
use Rattle.codespan_suggestions.proofs.ReadOutputs.{file-drawable, filter-map, filter-all, map-all}

module _ (padding : ℕ) (o n : Option ℕ) (has : HasCells padding o) (holds : HasCells padding n)
  where
    both-length : length (number_cells padding o ++ number_cells padding n) ≡ 2 * (padding + 1)
    both-length =
        let whole = length-append (number_cells padding o) (number_cells padding n) in
        let first = cells-length padding o has in
        let second = cells-length padding n holds in
        omega (arith, whole, first, second)

    both-gutter : AllByRecursion (λ b. is_gutter b ≡ true)
        (number_cells padding o ++ number_cells padding n)
    both-gutter =
        gutter-append (number_cells padding o) (number_cells padding n)
        (cells-gutter padding o has) (cells-gutter padding n holds)

module _ (settings : RowSettings) where
  row-in-column : (row : Row) → Fits settings row → IsInColumn settings row
  row-in-column (HeaderRow locus) fits = tt
  row-in-column (StartRow locus) fits = record {
    left = number_cells settings.padding None ++ number_cells settings.padding None;
    border = start_text settings.chars.snippet_start;
    rest = 32 ∷ text_of (snippet_locus locus);
    parts = text-start settings locus;
    column_is = both-length settings.padding None None tt tt;
    gutter = both-gutter settings.padding None None tt tt;
    is_border = inr (inr refl);
  }
  row-in-column EmptyRow fits = record {
    left = number_cells settings.padding None ++ number_cells settings.padding None;
    border = encode_utf8 settings.chars.source_border_left;
    rest = [];
    parts = text-empty settings;
    column_is = both-length settings.padding None None tt tt;
    gutter = both-gutter settings.padding None None tt tt;
    is_border = inl refl;
  }
  row-in-column BreakRow fits =
      let break = encode_utf8 settings.chars.source_border_left_break in
      let blank = number_cells settings.padding None ++ number_cells settings.padding None in
      record {
        left = blank;
        border = break;
        rest = [];
        parts = text-broken settings ∙ ap (λ xs. blank ++ xs) (sym (append-nil break));
        column_is = both-length settings.padding None None tt tt;
        gutter = both-gutter settings.padding None None tt tt;
        is_border = inr (inl refl);
      }
  row-in-column (LineRow r) fits = record {
    left =
        number_cells settings.padding r.old_number ++ number_cells settings.padding r.new_number;
    border = encode_utf8 settings.chars.source_border_left;
    rest = sign_bytes r.row.sign ++ shown_text settings.tab_width r.row.line;
    parts = text-line settings r;
    column_is = both-length settings.padding r.old_number r.new_number fits.0 fits.1;
    gutter = both-gutter settings.padding r.old_number r.new_number fits.0 fits.1;
    is_border = inl refl;
  }
  row-in-column (EndRow end) fits = record {
    left = number_cells settings.padding None ++ number_cells settings.padding None;
    border = encode_utf8 settings.chars.source_border_left;
    rest = codes " \\ " ++ end_text end;
    parts = text-end settings end;
    column_is = both-length settings.padding None None tt tt;
    gutter = both-gutter settings.padding None None tt tt;
    is_border = inl refl;
  }
  row-in-column FinalRow fits = tt

  rows-in-column : (rows : List Row) → AllByRecursion (Fits settings) rows
      → AllByRecursion (IsInColumn settings) rows
  rows-in-column [] all = tt
  rows-in-column (r ∷ rs) all = (row-in-column r all.0, rows-in-column rs all.1)

pub borders-are-in-one-column : {Id : Type 0} → BordersAreInOneColumn Id
borders-are-in-one-column {Id} config database s each =
    let context = context_of config in
    let edits = edits_in config database s in
    let ids = edited_files database.same s.edits.items in
    let shown = shown_files config database s in
    let file : Id → DrawnFile = drawn_file context database s.edits.items in
    let files = drawn_files context database s.edits.items in
    let settings = settings_of config (string_bytes s.message) files in
    let P : Id → Type 0 = λ id. CanBeRead (database.file id) (edits id) in
    let drawable : AllByRecursion (IsDrawableFile settings) files =
    subst (AllByRecursion (IsDrawableFile settings)) (sym (filter-map has_hunk file ids))
    (map-all P (IsDrawableFile settings) file
    (λ id h. file-drawable settings context (database.file id) (edits id) h) shown
    (filter-all P (λ id. has_hunk (file id)) ids each)) in
    (tt, rows-in-column settings _ (all-fit settings files refl drawable))
