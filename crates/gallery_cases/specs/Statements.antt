-- What a line states.
use Rattle.std.specs.Prelude.{◌≡◌, ◌≢◌, ◌⊎◌, ℕ, true, false, List, Option, Some}
use Rattle.std.specs.Prelude.{None, IsSomeAnd, codes, string_bytes}
use Rattle.std.specs.Result.{result_ok}
use Rattle.codespan_base.specs.declared.diagnostic.Label.{Label}
use Rattle.codespan_base.specs.declared.diagnostic.LabelStyle.{LabelStyle}
use Rattle.codespan_base.specs.declared.diagnostic.LabelStyle.TheVariants as styles
use Rattle.codespan_edits.specs.declared.edit.Edit.{Edit}
use Rattle.gallery_cases.specs.declared.errors.LineError.{LineError}
use Rattle.gallery_cases.specs.declared.errors.LineError.TheVariants.{UnknownWord, UnknownName}
use Rattle.gallery_cases.specs.declared.errors.LineError.TheVariants.{BadNumber, BadEscape, NoCase}
use Rattle.gallery_cases.specs.declared.errors.LineError.TheVariants.{NoFile, NoSuggestion}
use Rattle.gallery_cases.specs.declared.errors.LineError.TheVariants.{OutOfMemory}
use Rattle.gallery_cases.specs.declared.statement.ContextLines as context_lines
use Rattle.gallery_cases.specs.declared.statement.Line.{Line}
use Rattle.gallery_cases.specs.declared.statement.Line.TheVariants.{Ignored, NewCase, OfLastCase}
use Rattle.gallery_cases.specs.declared.statement.Statement.{Statement}
use Rattle.gallery_cases.specs.declared.statement.Statement.TheVariants as statements
use Rattle.gallery_cases.specs.declared.words.Word.{Word}
use Rattle.gallery_cases.specs.declared.words.Word.TheVariants.{Database, File, Source, Number}
use Rattle.gallery_cases.specs.declared.words.Word.TheVariants.{Style, Layout, Tab, Context}
use Rattle.gallery_cases.specs.declared.words.Word.TheVariants.{Characters, Colors, Severity, Code}
use Rattle.gallery_cases.specs.declared.words.Word.TheVariants.{Message, Primary, Secondary, Note}
use Rattle.gallery_cases.specs.declared.words.Word.TheVariants.{Width, Suggestion, Replace}
use Rattle.program_io.specs.Escapes.{unescaped}
use Rattle.program_io.specs.Fields.{field_of, past_space, is_ignored_text}
use Rattle.program_io.specs.Names.{severity_named, display_style_named}
use Rattle.gallery_cases.specs.Numbers.{IsNumber, IsBadNumber}
use Rattle.gallery_cases.specs.Words.{characters_named, colors_named, database_kind_named}
use Rattle.gallery_cases.specs.Words.{layout_named, case_word_named}

-- ---- what a line states

-- what follows the second space of a text, or nothing
abbrev pub past_two_spaces : List ℕ → List ℕ
past_two_spaces text = past_space (past_space text)

-- what follows its third space, or nothing
abbrev pub past_three_spaces : List ℕ → List ℕ
past_three_spaces text = past_space (past_two_spaces text)

-- the escaped text stands for these bytes
abbrev pub UnescapesTo : List ℕ → List ℕ → Type 0
UnescapesTo text bytes = result_ok (unescaped text) ≡ Some bytes

-- it stands for none: it has a backslash that does not begin an escape
abbrev pub HasNoText : List ℕ → Type 0
HasNoText text = result_ok (unescaped text) ≡ None

-- the word with which a label of this style begins
abbrev pub label_style_word : LabelStyle → Word
label_style_word styles.Primary = Primary
label_style_word styles.Secondary = Secondary

-- the rest has the numbers of context lines: after a first line, before a last one, before a
-- label and after it
pub record AreContextLines (rest : List ℕ) (context : context_lines.ContextLines) : Type 0 where
  pub start : IsNumber (field_of rest) context.start
  pub end : IsNumber (field_of (past_space rest)) context.end
  pub before : IsNumber (field_of (past_two_spaces rest)) context.before
  pub after : IsNumber (past_three_spaces rest) context.after

-- the rest has a label: its file, where it starts, where it ends, and its message
pub record IsLabel (rest : List ℕ) (label : Label ℕ) : Type 0 where
  pub file : IsNumber (field_of rest) label.file_id
  pub start : IsNumber (field_of (past_space rest)) label.range.start
  pub end : IsNumber (field_of (past_two_spaces rest)) label.range.end
  pub message : UnescapesTo (past_three_spaces rest) (string_bytes label.message)

-- the rest has an edit: its file, where it starts, where it ends, and its replacement
pub record IsEdit (rest : List ℕ) (edit : Edit ℕ) : Type 0 where
  pub file : IsNumber (field_of rest) edit.file_id
  pub start : IsNumber (field_of (past_space rest)) edit.range.start
  pub end : IsNumber (field_of (past_two_spaces rest)) edit.range.end
  pub replacement : UnescapesTo (past_three_spaces rest) (string_bytes edit.replacement)

-- what a line states, by its word and its rest
abbrev pub States : Option Word → List ℕ → Statement → Type 0
States word rest (statements.Database kind) =
    (word ≡ Some Database) × (database_kind_named rest ≡ Some kind)
States word rest (statements.File name) =
    (word ≡ Some File) × UnescapesTo rest (string_bytes name)
States word rest (statements.Source text) =
    (word ≡ Some Source) × UnescapesTo rest (string_bytes text)
States word rest (statements.Number line number) =
    (word ≡ Some Number) × IsNumber (field_of rest) line × IsNumber (past_space rest) number
States word rest (statements.Style style) =
    (word ≡ Some Style) × (display_style_named rest ≡ Some style)
States word rest (statements.Layout layout) =
    (word ≡ Some Layout) × (layout_named rest ≡ Some layout)
States word rest (statements.Tab width) = (word ≡ Some Tab) × IsNumber rest width
States word rest (statements.Context context) =
    (word ≡ Some Context) × AreContextLines rest context
States word rest (statements.Width width) = (word ≡ Some Width) × IsNumber rest width
States word rest (statements.Characters set) =
    (word ≡ Some Characters) × (characters_named rest ≡ Some set)
States word rest (statements.Colors colors) =
    (word ≡ Some Colors) × (colors_named rest ≡ Some colors)
States word rest (statements.Severity severity) =
    (word ≡ Some Severity) × (severity_named rest ≡ Some severity)
States word rest (statements.Code code) =
    (word ≡ Some Code) × UnescapesTo rest (string_bytes code)
States word rest (statements.Message message) =
    (word ≡ Some Message) × UnescapesTo rest (string_bytes message)
States word rest (statements.Label label) =
    (word ≡ Some (label_style_word label.style)) × IsLabel rest label
States word rest (statements.Note note) =
    (word ≡ Some Note) × UnescapesTo rest (string_bytes note)
States word rest (statements.Suggestion message) =
    (word ≡ Some Suggestion) × UnescapesTo rest (string_bytes message)
States word rest (statements.Replace edit) = (word ≡ Some Replace) × IsEdit rest edit

-- what a line is: ignored, the first of a case of this name, or a statement of the last case
abbrev pub ParsesTo : List ℕ → Line → Type 0
ParsesTo line Ignored = is_ignored_text line ≡ true
ParsesTo line (NewCase name) =
    (is_ignored_text line ≡ false) × (field_of line ≡ codes "case")
    × (name.now ≡ past_space line)
ParsesTo line (OfLastCase statement) =
    (is_ignored_text line ≡ false)
    × States (case_word_named (field_of line)) (past_space line) statement

-- ---- what is wrong with a line

-- the rest is none of the names that may follow its word
abbrev pub HasUnknownName : List ℕ → Word → Type 0
HasUnknownName rest Database = database_kind_named rest ≡ None
HasUnknownName rest Style = display_style_named rest ≡ None
HasUnknownName rest Layout = layout_named rest ≡ None
HasUnknownName rest Characters = characters_named rest ≡ None
HasUnknownName rest Colors = colors_named rest ≡ None
HasUnknownName rest Severity = severity_named rest ≡ None
HasUnknownName rest _ = ⊥

-- one of the first three fields of the rest is not a number
abbrev pub HasBadNumberOfThree : List ℕ → Type 0
HasBadNumberOfThree rest =
    IsBadNumber (field_of rest)
    ⊎ (IsBadNumber (field_of (past_space rest)) ⊎ IsBadNumber (field_of (past_two_spaces rest)))

-- the rest lacks a number that has to follow its word
abbrev pub HasBadNumber : List ℕ → Word → Type 0
HasBadNumber rest Number = IsBadNumber (field_of rest) ⊎ IsBadNumber (past_space rest)
HasBadNumber rest Tab = IsBadNumber rest
HasBadNumber rest Width = IsBadNumber rest
HasBadNumber rest Context = HasBadNumberOfThree rest ⊎ IsBadNumber (past_three_spaces rest)
HasBadNumber rest Primary = HasBadNumberOfThree rest
HasBadNumber rest Secondary = HasBadNumberOfThree rest
HasBadNumber rest Replace = HasBadNumberOfThree rest
HasBadNumber rest _ = ⊥

-- the text of the rest has a backslash that does not begin an escape
abbrev pub HasBadEscape : List ℕ → Word → Type 0
HasBadEscape rest File = HasNoText rest
HasBadEscape rest Source = HasNoText rest
HasBadEscape rest Code = HasNoText rest
HasBadEscape rest Message = HasNoText rest
HasBadEscape rest Note = HasNoText rest
HasBadEscape rest Suggestion = HasNoText rest
HasBadEscape rest Primary = HasNoText (past_three_spaces rest)
HasBadEscape rest Secondary = HasNoText (past_three_spaces rest)
HasBadEscape rest Replace = HasNoText (past_three_spaces rest)
HasBadEscape rest _ = ⊥

-- what is wrong with a line of this word and this rest, whatever precedes it
abbrev pub IsWrong : Option Word → List ℕ → LineError → Type 0
IsWrong word rest UnknownWord = word ≡ None
IsWrong word rest UnknownName = IsSomeAnd word (HasUnknownName rest)
IsWrong word rest BadNumber = IsSomeAnd word (HasBadNumber rest)
IsWrong word rest BadEscape = IsSomeAnd word (HasBadEscape rest)
IsWrong word rest NoCase = ⊥
IsWrong word rest NoFile = ⊥
IsWrong word rest NoSuggestion = ⊥
IsWrong word rest OutOfMemory = Unit {0}

-- what is wrong with a line that is neither ignored nor the first of a case
pub record IsWrongLine (line : List ℕ) (line_error : LineError) : Type 0 where
  pub not_ignored : is_ignored_text line ≡ false
  pub not_new_case : field_of line ≢ codes "case"
  pub wrong : IsWrong (case_word_named (field_of line)) (past_space line) line_error
