-- Cases, as they are parsed line by line.
use Rattle.std.specs.Prelude.{◌≡◌, ◌⊎◌, ℕ, ◌+◌, List, [], ◌∷◌, ◌++◌}
use Rattle.std.specs.Prelude.{map, take, Option, Some, None, slice_get, string_bytes}
use Rattle.std.specs.Prelude.{if◌then◌else◌}
use Rattle.std.specs.Str.{bytes_eq}
use Rattle.codespan_base.specs.declared.diagnostic.Severity.TheVariants as severities
use Rattle.codespan_base.specs.Defaults.{default_config}
use Rattle.codespan_base.specs.Diagnostics.{diagnostic_view}
use Rattle.codespan_base.specs.ConfigEquality.{IsEqualChars, IsEqualConfig}
use Rattle.codespan_suggestions.specs.Views.{EditView, SuggestionView, edit_view, suggestion_view}
use Rattle.codespan_suggestions.specs.declared.suggestion.Applicability.TheVariants.{Unspecified}
use Rattle.gallery_cases.specs.declared.case.Case.{Case}
use Rattle.gallery_cases.specs.declared.case.ColorChoice.TheVariants.{Plain}
use Rattle.gallery_cases.specs.declared.case.File.{File}
use Rattle.gallery_cases.specs.declared.case.DatabaseKind.TheVariants.{Several}
use Rattle.gallery_cases.specs.declared.errors.GalleryError.{GalleryError}
use Rattle.gallery_cases.specs.declared.errors.GalleryError.TheVariants as gallery_errors
use Rattle.gallery_cases.specs.declared.errors.LineError.{LineError}
use Rattle.gallery_cases.specs.declared.errors.LineError.TheVariants.{NoCase, NoFile, NoSuggestion}
use Rattle.gallery_cases.specs.declared.errors.LineError.TheVariants.{OutOfMemory}
use Rattle.gallery_cases.specs.declared.statement.Line.{Line}
use Rattle.gallery_cases.specs.declared.statement.Line.TheVariants.{Ignored, NewCase, OfLastCase}
use Rattle.gallery_cases.specs.declared.statement.Statement.{Statement}
use Rattle.gallery_cases.specs.declared.statement.Statement.TheVariants as statements
use Rattle.gallery_cases.specs.Statements.{ParsesTo, IsWrongLine}
use Rattle.gallery_cases.specs.Words.{chars_of}
use Rattle.program_io.specs.declared.run_error.RunError.{RunError}
use Rattle.program_io.specs.declared.run_error.RunError.TheVariants as run_errors

-- ---- one case

-- a file by its texts: its name and its source
abbrev pub file_view : File → List ℕ × List ℕ
file_view file = (string_bytes file.name, string_bytes file.source)

-- a new case with this name
pub record IsNew (name : List ℕ) (case : Case) : Type 0 where
  pub named : case.name.now ≡ name
  pub database_kind : case.database_kind ≡ Several
  pub files : case.files.items ≡ []
  pub set_numbers : case.set_numbers.items ≡ []
  pub config : IsEqualConfig default_config case.config
  pub colors : case.colors ≡ Plain
  pub diagnostic : diagnostic_view case.diagnostic
      ≡ record { severity = severities.Error; code = None; message = []; labels = []; notes = [] }
  pub suggestions : case.suggestions.items ≡ []

-- the text continues the source of the last file
pub record ContinuesSource (text : List ℕ) (old new : List (List ℕ × List ℕ)) : Type 0 where
  pub front : List (List ℕ × List ℕ)
  pub name : List ℕ
  pub source : List ℕ
  pub was : old ≡ front ++ (name, source) ∷ []
  pub is : new ≡ front ++ (name, source ++ text) ∷ []

-- a suggestion with this message, and without edits
abbrev pub new_suggestion : List ℕ → SuggestionView ℕ
new_suggestion message =
    record { message = message; applicability = Unspecified; edits = [] }

-- the edit is added to the last suggestion
pub record AddsEdit (edit : EditView ℕ) (old new : List (SuggestionView ℕ)) : Type 0 where
  pub front : List (SuggestionView ℕ)
  pub last : SuggestionView ℕ
  pub was : old ≡ front ++ last ∷ []
  pub is : new ≡ front ++ record last { edits = last.edits ++ edit ∷ [] } ∷ []

-- the new case is the old one, with the statement applied
abbrev pub Applies : Statement → Case → Case → Type 0
Applies (statements.Database kind) old new = new ≡ record old { database_kind = kind }
Applies (statements.File name) old new =
    (new ≡ record old { files = new.files })
    × (map file_view new.files.items
    ≡ map file_view old.files.items ++ (string_bytes name, []) ∷ [])
Applies (statements.Source text) old new =
    (new ≡ record old { files = new.files })
    × ContinuesSource (string_bytes text) (map file_view old.files.items)
    (map file_view new.files.items)
Applies (statements.Number line number) old new =
    (new ≡ record old { set_numbers = new.set_numbers })
    × (new.set_numbers.items
    ≡ old.set_numbers.items ++ record { line = line; number = number } ∷ [])
Applies (statements.Style style) old new =
    new ≡ record old { config = record old.config { display_style = style } }
Applies (statements.Layout layout) old new =
    new ≡ record old { config = record old.config { layout = layout } }
Applies (statements.Tab width) old new =
    new ≡ record old { config = record old.config { tab_width = width } }
Applies (statements.Context context) old new = new ≡ record old {
  config = record old.config {
    start_context_lines = context.start;
    end_context_lines = context.end;
    before_label_lines = context.before;
    after_label_lines = context.after;
  };
}
Applies (statements.Width width) old new =
    new ≡ record old { config = record old.config { max_width = Some width } }
Applies (statements.Characters set) old new =
    (new ≡ record old { config = record old.config { chars = new.config.chars } })
    × IsEqualChars (chars_of set) new.config.chars
Applies (statements.Colors colors) old new = new ≡ record old { colors = colors }
Applies (statements.Severity severity) old new =
    new ≡ record old { diagnostic = record old.diagnostic { severity = severity } }
Applies (statements.Code code) old new =
    new ≡ record old { diagnostic = record old.diagnostic { code = Some code } }
Applies (statements.Message message) old new =
    new ≡ record old { diagnostic = record old.diagnostic { message = message } }
Applies (statements.Label label) old new =
    (new ≡ record old { diagnostic = record old.diagnostic { labels = new.diagnostic.labels } })
    × (new.diagnostic.labels.items ≡ old.diagnostic.labels.items ++ label ∷ [])
Applies (statements.Note note) old new =
    (new ≡ record old { diagnostic = record old.diagnostic { notes = new.diagnostic.notes } })
    × (new.diagnostic.notes.items ≡ old.diagnostic.notes.items ++ note ∷ [])
Applies (statements.Suggestion message) old new =
    (new ≡ record old { suggestions = new.suggestions })
    × (map suggestion_view new.suggestions.items
    ≡ map suggestion_view old.suggestions.items ++ new_suggestion (string_bytes message) ∷ [])
Applies (statements.Replace edit) old new =
    (new ≡ record old { suggestions = new.suggestions })
    × AddsEdit (edit_view edit) (map suggestion_view old.suggestions.items)
    (map suggestion_view new.suggestions.items)

-- the statement continues a source
abbrev pub IsSource : Statement → Type 0
IsSource (statements.Source text) = Unit {0}
IsSource _ = ⊥

-- the statement is an edit
abbrev pub IsReplace : Statement → Type 0
IsReplace (statements.Replace edit) = Unit {0}
IsReplace _ = ⊥

-- why a statement cannot be applied to a case: it has no file whose source could be continued, or
-- no suggestion that could have the edit, or an allocation failed
abbrev pub FailsToApply : Statement → Case → LineError → Type 0
FailsToApply statement case NoFile = IsSource statement × (case.files.items ≡ [])
FailsToApply statement case NoSuggestion =
    IsReplace statement × (case.suggestions.items ≡ [])
FailsToApply statement case OutOfMemory = Unit {0}
FailsToApply statement case _ = ⊥

-- ---- all cases

-- the statement is applied to the last case
pub record AppliesToLast (statement : Statement) (before after : List Case) : Type 0 where
  pub front : List Case
  pub old : Case
  pub new : Case
  pub was : before ≡ front ++ old ∷ []
  pub is : after ≡ front ++ new ∷ []
  pub applied : Applies statement old new

-- a new case with this name is added
pub record AddsCase (name : List ℕ) (before after : List Case) : Type 0 where
  pub case : Case
  pub is : after ≡ before ++ case ∷ []
  pub new : IsNew name case

-- what a line does to the cases before it
abbrev pub AppliesParsedLine : Line → List Case → List Case → Type 0
AppliesParsedLine Ignored before after = after ≡ before
AppliesParsedLine (NewCase name) before after = AddsCase name.now before after
AppliesParsedLine (OfLastCase statement) before after = AppliesToLast statement before after

-- the cases after a line are those before it, with the line applied
pub record AppliesLine (line : List ℕ) (before after : List Case) : Type 0 where
  pub parsed_line : Line
  pub parsed : ParsesTo line parsed_line
  pub applied : AppliesParsedLine parsed_line before after

-- the cases after some lines, parsed one after another
abbrev pub AppliesLines : List (List ℕ) → List Case → List Case → Type 0
AppliesLines [] before after = after ≡ before
AppliesLines (line ∷ lines) before after =
    (between : List Case) × AppliesLine line before between × AppliesLines lines between after

-- why a statement cannot be applied to the last case: there is none, or why it cannot be applied to
-- that
abbrev pub FailsAtLast : Statement → List Case → LineError → Type 0
FailsAtLast statement before NoCase = before ≡ []
FailsAtLast statement before line_error =
    (front : List Case) × (last : Case) × (before ≡ front ++ last ∷ [])
    × FailsToApply statement last line_error

-- what is wrong with a line after these cases: an allocation failed, the line is wrong, or it
-- cannot be applied to them
abbrev pub IsLineError : List ℕ → List Case → LineError → Type 0
IsLineError line before line_error =
    (line_error ≡ OutOfMemory)
    ⊎ (IsWrongLine line line_error
    ⊎ ((statement : Statement) × ParsesTo line (OfLastCase statement)
    × FailsAtLast statement before line_error))

-- the error has the number, from 1, of the first line that is wrong, and what is wrong with it; or
-- an allocation failed
abbrev pub IsFirstLineError : List (List ℕ) → RunError GalleryError → Type 0
IsFirstLineError lines (run_errors.Program (gallery_errors.Line number line_error)) =
    (k : ℕ) × (line : List ℕ) × (before : List Case) × (number ≡ k + 1)
    × (slice_get lines k ≡ Some line) × AppliesLines (take k lines) [] before
    × IsLineError line before line_error
IsFirstLineError lines run_errors.OutOfMemory = Unit {0}
IsFirstLineError lines _ = ⊥

-- ---- the case with a name

-- the first case with this name
abbrev pub case_named : List ℕ → List Case → Option Case
case_named name [] = None
case_named name (case ∷ cases) =
    if bytes_eq case.name.now name then Some case else case_named name cases
