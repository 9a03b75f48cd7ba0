-- For the clauses `value` of `codespan_native`, and for the outputs of `report`: equal
-- configurations render the same.
use Rattle.codespan_core.proofs.Std.{◌≡◌, ℕ, List, [], ◌∷◌, ◌++◌, refl, ap}
use Rattle.codespan_core.proofs.Std.{◌∙◌, Option, Some, None}
use Rattle.codespan_core.specs.declared.term.config.chars.SnippetStart.{SnippetStart}
use Rattle.codespan_core.specs.SnippetStarts.{start_text}
use Rattle.codespan_core.specs.ConfigEquality.{IsEqualConfig}
use Rattle.codespan_core.specs.Streams.{byte_stream, style_mark, space}
use Rattle.codespan_core.specs.declared.term.config.style_mark.StyleMark.TheVariants.{SourceBorder}
use Rattle.codespan_core.specs.declared.term.config.style_mark.StyleMark.TheVariants.{Reset}
use Rattle.codespan_output.specs.Types.{Config, Severity, DisplayStyle, Rich, Medium, Short}
use Rattle.codespan_output.specs.{HeaderText, Locus, RowContext, Row, HeaderRow, SnippetStartRow}
use Rattle.codespan_output.specs.{EmptyRow, BreakRow, SourceRow, CaretRow, PointerRow, HangingRow}
use Rattle.codespan_output.specs.{UnderlineRow, FirstNoteRow, LaterNoteRow, FinalRow, outer_gutter}
use Rattle.codespan_output.specs.{snippet_locus, stream_of, stream_of_rows, row_definitions}
use Rattle.codespan_output.specs.{padding_of, context_of, rendered, LabeledFileModel, header_rows}
use Rattle.codespan_output.specs.{note_rows, rich_rows, Line, fitted_pieces, fitted_row}
use Rattle.codespan_output.specs.{fitted_stream, shown_line, moved_label, moved_mark}

-- the configuration with this text before a locus
abbrev with_start : Config → SnippetStart → Config
with_start config start = record config { chars = record config.chars { snippet_start = start } }

-- equal configurations differ at most in how that text is stored
is_with_start : (table config : Config) → IsEqualConfig table config
    → config ≡ with_start table config.chars.snippet_start
is_with_start table config equal =
    equal.others ∙ ap (λ chars. record table { chars = chars }) equal.chars.others

module _ (config : Config) (severity : Severity) (padding : ℕ) (start other : SnippetStart)
    (same : start_text start ≡ start_text other) where
  -- the context of rows with each of the two texts
  abbrev context : SnippetStart → RowContext
  context text = context_of (with_start config text) severity padding

  -- each row is the same
  row_equal : (row : Row) → stream_of (context start) row ≡ stream_of (context other) row
  unfolding row_definitions
  row_equal (HeaderRow at header_text) = refl
  row_equal (SnippetStartRow at) =
      ap (λ text. outer_gutter padding ++ style_mark SourceBorder ++ byte_stream text
      ++ style_mark Reset ++ space ++ snippet_locus at) same
  row_equal (EmptyRow lanes) = refl
  row_equal (BreakRow lanes) = refl
  row_equal (SourceRow line) = refl
  row_equal (CaretRow line) = refl
  row_equal (PointerRow line) = refl
  row_equal (HangingRow line x) = refl
  row_equal (UnderlineRow line m) = refl
  row_equal (FirstNoteRow note_line) = refl
  row_equal (LaterNoteRow note_line) = refl
  row_equal FinalRow = refl

  -- what fits a width is the same
  pieces_equal : (width : Option ℕ) (line : Line)
      → fitted_pieces width (context start) line ≡ fitted_pieces width (context other) line
  pieces_equal None line = refl
  pieces_equal (Some n) line = refl

  fitted_equal : (width : Option ℕ) (row : Row)
      → fitted_row width (context start) row ≡ fitted_row width (context other) row
  fitted_equal width (HeaderRow at header_text) = refl
  fitted_equal width (SnippetStartRow at) = refl
  fitted_equal width (EmptyRow lanes) = refl
  fitted_equal width (BreakRow lanes) = refl
  fitted_equal width (SourceRow line) =
      ap (λ ps. SourceRow (shown_line ps line)) (pieces_equal width line)
  fitted_equal width (CaretRow line) =
      ap (λ ps. CaretRow (shown_line ps line)) (pieces_equal width line)
  fitted_equal width (PointerRow line) =
      ap (λ ps. PointerRow (shown_line ps line)) (pieces_equal width line)
  fitted_equal width (HangingRow line x) =
      ap (λ ps. HangingRow (shown_line ps line) (moved_label ps x)) (pieces_equal width line)
  fitted_equal width (UnderlineRow line m) =
      ap (λ ps. UnderlineRow (shown_line ps line) (moved_mark ps m)) (pieces_equal width line)
  fitted_equal width (FirstNoteRow note_line) = refl
  fitted_equal width (LaterNoteRow note_line) = refl
  fitted_equal width FinalRow = refl

  -- all rows are the same
  rows_equal : (rows : List Row)
      → stream_of_rows (context start) rows ≡ stream_of_rows (context other) rows
  rows_equal [] = refl
  rows_equal (row ∷ rows) = cc (row_equal row, rows_equal rows)

  -- and so are all rows that fit a width
  fitted_rows_equal : (width : Option ℕ) (rows : List Row)
      → fitted_stream width (context start) rows ≡ fitted_stream width (context other) rows
  fitted_rows_equal width [] = refl
  fitted_rows_equal width (row ∷ rows) =
      cc (
        fitted_equal width row,
        row_equal (fitted_row width (context start) row),
        fitted_rows_equal width rows,
      )

-- what is rendered is the same, in each style
module _ (table config : Config) (equal : IsEqualConfig table config) (severity : Severity)
    (header_text : HeaderText) (loci : List Locus) (ss : List LabeledFileModel)
    (notes : List (List ℕ)) where
  -- rows of this padding width are the same
  all_equal : (padding : ℕ) (rows : List Row)
      → stream_of_rows (context_of config severity padding) rows ≡ stream_of_rows
      (context_of table severity padding) rows
  all_equal padding rows =
      ap (λ c. stream_of_rows (context_of c severity padding) rows)
      (is_with_start table config equal)
      ∙ rows_equal table severity padding config.chars.snippet_start table.chars.snippet_start
      equal.chars.start rows

  pub rendered_equal : (style : DisplayStyle)
      → rendered style config config severity header_text loci ss notes
      ≡ rendered style table table
      severity header_text loci ss notes
  rendered_equal Rich =
      ap (λ c. rendered Rich c c severity header_text loci ss notes)
      (is_with_start table config equal)
      ∙ fitted_rows_equal table severity (padding_of table ss) config.chars.snippet_start
      table.chars.snippet_start equal.chars.start table.max_width
      (rich_rows table header_text loci ss notes)
  rendered_equal Medium = all_equal 0 (header_rows header_text loci ++ note_rows notes)
  rendered_equal Short = all_equal 0 (header_rows header_text loci)
