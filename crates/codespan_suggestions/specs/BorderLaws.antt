-- Where the rows of an output have their borders.
use Rattle.std.specs.Prelude.{◌≡◌, ◌⊎◌, ◌+◌, ◌*◌, ℕ, true, List, ◌++◌, length, string_bytes}
use Rattle.std.specs.List.{AllByRecursion}
use Rattle.std.specs.Char.{encode_utf8}
use Rattle.codespan_core.specs.FileModel.{FileDatabase}
use Rattle.codespan_core.specs.SnippetStarts.{start_text}
use Rattle.codespan_core.specs.Streams.{text_of}
use Rattle.codespan_output.specs.Types.{Chars, Config}
use Rattle.codespan_suggestions.specs.DrawnFiles.{context_of, drawn_files}
use Rattle.codespan_suggestions.specs.EditedFiles.{edited_files}
use Rattle.codespan_suggestions.specs.SuggestionRows.{Row, RowSettings, rich_rows, stream_of}
use Rattle.codespan_suggestions.specs.SuggestionRows.Row.{HeaderRow}
use Rattle.codespan_suggestions.specs.SuggestionRows.Row.{FinalRow}
use Rattle.codespan_suggestions.specs.SuggestionOutput.{settings_of}
use Rattle.codespan_suggestions.specs.ReadOutput.{is_gutter}
use Rattle.codespan_suggestions.specs.ReadingLaws.{CanBeRead, edits_in}
use Rattle.codespan_suggestions.specs.declared.suggestion.Suggestion.{Suggestion}

-- a text is that of a border: the border itself, the break, or the start of a file
abbrev pub IsBorder : Chars → List ℕ → Type 0
IsBorder chars text =
    (text ≡ encode_utf8 chars.source_border_left)
    ⊎ ((text ≡ encode_utf8 chars.source_border_left_break)
    ⊎ (text ≡ start_text chars.snippet_start))

-- a row has so many digits and spaces, and then a border
pub record HasBorderAt (chars : Chars) (column : ℕ) (row : List ℕ) : Type 0 where
  pub left : List ℕ
  pub border : List ℕ
  pub rest : List ℕ
  pub parts : row ≡ left ++ (border ++ rest)
  pub column_is : length left ≡ column
  pub gutter : AllByRecursion (λ b. is_gutter b ≡ true) left
  pub is_border : IsBorder chars border

-- a row between the header and the last one has its border behind two numbers in their cells, each
-- before a space
abbrev pub IsInColumn : RowSettings → Row → Type 0
IsInColumn settings (HeaderRow locus) = Unit {0}
IsInColumn settings FinalRow = Unit {0}
IsInColumn settings row =
    HasBorderAt settings.chars (2 * (settings.padding + 1)) (text_of (stream_of settings row))

-- all borders of an output in rich style are in one column
abbrev pub BordersAreInOneColumn : Type 0 → Type 0
BordersAreInOneColumn Id = (config : Config) (database : FileDatabase Id) (s : Suggestion Id)
    → AllByRecursion (λ id. CanBeRead (database.file id) (edits_in config database s id))
    (edited_files database.same s.edits.items)
    → AllByRecursion
    (IsInColumn
    (settings_of config (string_bytes s.message)
    (drawn_files (context_of config) database s.edits.items)))
    (rich_rows (drawn_files (context_of config) database s.edits.items))
