-- What the rows that are read from an output are to the texts of its files.
use Rattle.std.specs.Prelude.{◌≡◌, ◌⊎◌, ◌==◌, ◌+◌, ◌^◌, ◌<◌, ℕ, false, List, ◌++◌, map}
use Rattle.std.specs.Prelude.{filter, length, Some, None, string_bytes, flat_map, Option}
use Rattle.std.specs.List.{AllByRecursion, AllZip}
use Rattle.std.specs.Option.{option_map}
use Rattle.std.specs.Str.{byte, IsUtf8}
use Rattle.codespan_core.specs.Characters.{box_drawing, ascii}
use Rattle.codespan_core.specs.ConfigEquality.{IsEqualChars}
use Rattle.codespan_core.specs.FileModel.{FileDatabase, FileModel, name_text}
use Rattle.codespan_core.specs.Streams.{text_of}
use Rattle.codespan_output.specs.Types.{Chars, Config, Rich}
use Rattle.codespan_edits.specs.Edits.{TextEdit, edited}
use Rattle.codespan_edits.specs.Faults.{fault}
use Rattle.codespan_edits.specs.Diffs.{lines}
use Rattle.codespan_edits.specs.Numbers.{NumberedRow}
use Rattle.codespan_edits.specs.Patches.{patched}
use Rattle.codespan_edits.specs.DrawnRows.{Context, diff_hunks}
use Rattle.codespan_edits.specs.HunkLaws.{rows_of_hunks}
use Rattle.codespan_suggestions.specs.EditedFiles.{edited_files, edits_of_file, edited_text}
use Rattle.codespan_suggestions.specs.DrawnText.{shown_text, line_end, usual_end}
use Rattle.codespan_suggestions.specs.DrawnFiles.{has_hunk, drawn_file, context_of}
use Rattle.codespan_suggestions.specs.SuggestionOutput.{suggestion_stream}
use Rattle.codespan_suggestions.specs.ReadOutput.{RowRead, output_read, diff_read}
use Rattle.codespan_suggestions.specs.ReadableChars.{AreReadable, IsOneRow}
use Rattle.codespan_suggestions.specs.declared.suggestion.Suggestion.{Suggestion}

-- ---- lines as they are shown

-- a text has no tab
abbrev pub HasNoTab : List ℕ → Type 0
HasNoTab = AllByRecursion (λ b. (b == byte "\t") ≡ false)

-- a line as rows show it: its text with spaces for tabs, and its end
abbrev pub shown_line : ℕ → List ℕ → List ℕ
shown_line tab_width line = shown_text tab_width line ++ line_end line

-- a row with its line as it is shown
abbrev pub shown_row : ℕ → NumberedRow → NumberedRow
shown_row tab_width r = record {
  row = record { sign = r.row.sign; line = shown_line tab_width r.row.line };
  old_number = r.old_number;
  new_number = r.new_number;
}

-- ---- texts from an output

-- the text that a source and the rows of its file in an output give
abbrev pub text_given : List ℕ → List RowRead → Option (List ℕ)
text_given source rows =
    option_map (flat_map (λ (line : List ℕ). line))
    (patched (lines source) (diff_read (usual_end source) rows))

-- a source and the rows of its file give the text after the edits: all its lines as they are shown,
-- and its bytes where no line that is drawn has a tab
pub record AreGiven (tab_width : ℕ) (context : Context) (source : List ℕ) (edits : List TextEdit)
    (rows : List RowRead) : Type 0 where
  pub shown : patched (map (shown_line tab_width) (lines source))
      (diff_read (usual_end source) rows)
      ≡ Some (map (shown_line tab_width) (lines (edited source edits)))
  pub bytes : AllByRecursion (λ (r : NumberedRow). HasNoTab r.row.line)
      (rows_of_hunks (diff_hunks context source edits))
      → text_given source rows ≡ Some (edited source edits)

-- a text is UTF-8, and its length is a `usize`
pub record IsText (text : List ℕ) : Type 0 where
  pub utf8 : IsUtf8 text
  pub len : length text + 1 < 2 ^ 64

-- edits of a file have no fault, and its name has no newline
pub record CanBeRead (f : FileModel) (edits : List TextEdit) : Type 0 where
  pub name : IsOneRow (name_text f)
  pub source : IsText f.text
  pub result : IsText (edited f.text edits)
  pub fine : fault f.text edits ≡ None

module _ {Id : Type 0} (config : Config) (database : FileDatabase Id) (s : Suggestion Id) where
  -- the edits of a file
  abbrev pub edits_in : Id → List TextEdit
  edits_in id = edits_of_file database.same s.edits.items id

  -- the files that are shown, in the order of their first edits
  abbrev pub shown_files : List Id
  shown_files =
      filter (λ id. has_hunk (drawn_file (context_of config) database s.edits.items id))
      (edited_files database.same s.edits.items)

  -- the sources and a text give the texts after the edits, in rich style: it reads as the rows of
  -- each file that is shown, in their order, and a source and the rows of its file give its text
  abbrev pub TextGivesTexts : List ℕ → Type 0
  TextGivesTexts text =
      config.display_style ≡ Rich → AreReadable config.chars → IsOneRow (string_bytes s.message)
      → AllByRecursion (λ id. CanBeRead (database.file id) (edits_in id))
      (edited_files database.same s.edits.items)
      → AllZip
      (λ id rows. AreGiven config.tab_width (context_of config) (database.file id).text
      (edits_in id) rows)
      shown_files (output_read config.chars text)

-- the sources and the output give the texts after the edits
abbrev pub SourcesAndOutputGiveTexts : Type 0 → Type 0
SourcesAndOutputGiveTexts Id = (config : Config) (database : FileDatabase Id)
    (s : Suggestion Id)
    → TextGivesTexts config database s (text_of (suggestion_stream config database s))

-- the two default sets of characters are readable
abbrev pub DefaultCharactersAreReadable : Type 0
DefaultCharactersAreReadable = (chars : Chars)
    → (IsEqualChars box_drawing chars ⊎ IsEqualChars ascii chars) → AreReadable chars

-- a suggestion reads back by its bytes: its message has no newline, its files can be read, and no
-- line of theirs that is drawn has a tab
pub record IsReadByBytes {Id : Type 0} (config : Config) (database : FileDatabase Id)
    (s : Suggestion Id) : Type 0 where
  pub message : IsOneRow (string_bytes s.message)
  pub files : AllByRecursion
      (λ id. CanBeRead (database.file id) (edits_in config database s id))
      (edited_files database.same s.edits.items)
  pub no_tabs : AllByRecursion
      (λ id. AllByRecursion (λ (r : NumberedRow). HasNoTab r.row.line)
      (rows_of_hunks
      (diff_hunks (context_of config) (database.file id).text (edits_in config database s id))))
      (shown_files config database s)

-- two suggestions that show the same files, and have the same output in rich style, make the same
-- texts
abbrev pub SameOutputMakesSameTexts : Type 0 → Type 0
SameOutputMakesSameTexts Id = (config : Config) (database : FileDatabase Id)
    (s t : Suggestion Id) → config.display_style ≡ Rich → AreReadable config.chars
    → IsReadByBytes config database s → IsReadByBytes config database t
    → shown_files config database t ≡ shown_files config database s
    → text_of (suggestion_stream config database s) ≡ text_of (suggestion_stream config database t)
    → map (edited_text database s.edits.items) (shown_files config database s)
    ≡ map (edited_text database t.edits.items) (shown_files config database s)
