-- For the clauses of `rendering::render_suggestion` and `rendering::rendered_script`: the output of
-- a suggestion of one file.
use Rattle.codespan_core.proofs.Std.{Option, ◌≡◌, ℕ, List, [], ◌∷◌, ◌++◌, map, filter}
use Rattle.codespan_core.proofs.Std.{refl, sym, ap, subst, ◌∙◌, AllByRecursion, string_bytes}
use Rattle.std.specs.Prelude.{IsSome}
use Rattle.codespan_core.specs.ConfigEquality.{IsEqualConfig}
use Rattle.codespan_core.specs.FileModel.{FileDatabase}
use Rattle.codespan_core.specs.SnippetStarts.{start_text}
use Rattle.codespan_core.specs.Streams.{byte_stream, space, style_mark, text_of}
use Rattle.codespan_core.specs.declared.term.config.chars.SnippetStart.{SnippetStart}
use Rattle.codespan_core.specs.declared.term.config.style_mark.StyleMark.TheVariants.{Reset}
use Rattle.codespan_core.specs.declared.term.config.style_mark.StyleMark.TheVariants.{SourceBorder}
use Rattle.codespan_edits.specs.DrawnRows.{Context}
use Rattle.codespan_edits.specs.Edits.{TextEdit, text_edits}
use Rattle.codespan_edits.specs.declared.edit.Edit.{Edit}
use Rattle.codespan_output.specs.Lookups.{Failures}
use Rattle.codespan_output.specs.RowParts.{border_left, border_left_break, outer_gutter}
use Rattle.codespan_output.specs.RowParts.{snippet_locus}
use Rattle.codespan_output.specs.RowStreams.{snippet_start_row}
use Rattle.codespan_output.specs.Types.{Chars, Config, DisplayStyle}
use Rattle.codespan_suggestions.specs.DrawnFiles.{NamesAreStated, context_of, drawn, drawn_file}
use Rattle.codespan_suggestions.specs.DrawnFiles.{drawn_files, has_hunk}
use Rattle.codespan_suggestions.specs.SuggestionOutput.{output_of, rows_in, suggestion_stream}
use Rattle.codespan_suggestions.specs.SuggestionRows.{BreakRow, EmptyRow, EndRow, FinalRow}
use Rattle.codespan_suggestions.specs.SuggestionRows.{HeaderRow, LineRow, Row, RowSettings}
use Rattle.codespan_suggestions.specs.SuggestionRows.{StartRow, end_row, line_row, padding_of}
use Rattle.codespan_suggestions.specs.SuggestionRows.{stream_of, stream_of_rows}
use Rattle.codespan_suggestions.specs.Views.{suggestion_view}
use Rattle.codespan_suggestions.specs.declared.suggestion.Suggestion.{Suggestion}
use Rattle.report.specs.RenderedTexts.{only_file, report_config, shown_files, suggestion_text}
use Rattle.report.proofs.AppliedSources.{edits_of_text}
use Rattle.report.proofs.OneFile.{all_edits, one_file, only_edited}

-- ---- equal configurations

module _ (chars : Chars) (tab_width padding : ℕ) (message : List ℕ) (start other : SnippetStart)
    (same : start_text start ≡ start_text other) where
  -- what rows are rendered by, with each of two texts before a locus
  abbrev settings : SnippetStart → RowSettings
  settings text = record {
    chars = record chars { snippet_start = text };
    tab_width = tab_width;
    padding = padding;
    message = message;
  }

  -- each row is the same
  row_equal : (row : Row) → stream_of (settings start) row ≡ stream_of (settings other) row
  unfolding snippet_start_row border_left border_left_break line_row end_row
  row_equal (HeaderRow locus) = refl
  row_equal (StartRow locus) =
      ap (λ text. outer_gutter padding ++ (outer_gutter padding ++ style_mark SourceBorder
      ++ byte_stream text ++ style_mark Reset ++ space ++ snippet_locus locus)) same
  row_equal EmptyRow = refl
  row_equal BreakRow = refl
  row_equal (LineRow r) = refl
  row_equal (EndRow end) = refl
  row_equal FinalRow = refl

  -- all rows are the same
  rows_equal : (rows : List Row)
      → stream_of_rows (settings start) rows ≡ stream_of_rows (settings other) rows
  rows_equal [] = refl
  rows_equal (row ∷ rows) = cc (row_equal row, rows_equal rows)

-- ---- one file

module _ (name source : List ℕ) (failure : Failures (Unit {0})) where
  abbrev database : FileDatabase (Unit {0})
  database = one_file name source failure

  -- its name is stated
  pub names_are_stated : (edits : List (Edit (Unit {0}))) → NamesAreStated database edits
  names_are_stated [] = tt
  names_are_stated (edit ∷ edits) =
      subst (AllByRecursion (λ (id : Unit {0}). IsSome (database.file id).name))
      (sym (only_edited edit edits)) (refl, tt)

  -- it is shown with all edits
  files_shown : (context : Context) (edits : List (Edit (Unit {0})))
      → drawn_files context database edits
      ≡ shown_files context (only_file name source tt) (text_edits edits)
  files_shown context [] = refl
  files_shown context (edit ∷ edits) =
      ap (λ (ids : List (Unit {0})). filter has_hunk
      (map (drawn_file context database (edit ∷ edits)) ids)) (only_edited edit edits)
      ∙ ap (λ (es : List TextEdit). filter has_hunk
      (drawn context (only_file name source tt) es ∷ [])) (all_edits 0 (edit ∷ edits))

  -- what is emitted of a suggestion, by a configuration equal to the default one in a style
  pub emitted_text : (style : DisplayStyle) (width : Option ℕ) (config : Config)
      (s : Suggestion (Unit {0})) (text : List ℕ)
      → IsEqualConfig (report_config style width) config
      → text ≡ text_of (suggestion_stream config database s)
      → text ≡ suggestion_text style width name source (suggestion_view s)
  unfolding suggestion_text
  emitted_text style width config s text equal is =
      let plain = report_config style width in
      let context = context_of plain in
      let message = string_bytes s.message in
      let files = drawn_files context database s.edits.items in
      is
      ∙ ap (λ (c : Config). text_of (suggestion_stream c database s))
      (equal.others
      ∙ ap (λ (chars : Chars). record plain { chars = chars }) equal.chars.others)
      ∙ ap text_of
      (rows_equal plain.chars plain.tab_width (padding_of files) message
      config.chars.snippet_start plain.chars.snippet_start equal.chars.start (rows_in style files))
      ∙ ap (λ fs. text_of (output_of plain message fs)) (files_shown context s.edits.items)
      ∙ ap (λ (es : List TextEdit). text_of
      (output_of plain message (shown_files context (only_file name source tt) es)))
      (sym (edits_of_text s.edits.items))
