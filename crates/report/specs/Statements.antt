-- Statements: what each line of a script states, what they state together, and how a script is
-- written from them.
use Rattle.std.specs.Prelude.{◌≢◌, ℕ, ◌-◌, ◌^◌, ◌<◌, ◌≤◌, List, []}
use Rattle.std.specs.Prelude.{◌∷◌, ◌++◌, length, Option, Some, None, IfSome, codes}
use Rattle.std.specs.Prelude.{◌≡◌, ◌==◌, if◌then◌else◌, flat_map, map, slice_index}
use Rattle.std.specs.Prelude.{unwrap_or}
use Rattle.std.specs.Fmt.{decimal}
use Rattle.std.specs.List.{All, filter_map, slice_get}
use Rattle.std.specs.Option.{option_map}
use Rattle.std.specs.declared.ops.Range.{Range}
use Rattle.codespan_core.specs.Diagnostics.{DiagnosticView, LabelView, severity_name}
use Rattle.codespan_core.specs.declared.diagnostic.LabelStyle.{LabelStyle}
use Rattle.codespan_core.specs.declared.diagnostic.LabelStyle.TheVariants.{Primary, Secondary}
use Rattle.codespan_core.specs.declared.diagnostic.Severity.{Severity}
use Rattle.codespan_core.specs.declared.diagnostic.Severity.TheVariants.{Error}
use Rattle.codespan_edits.specs.Edits.{TextEdit}
use Rattle.codespan_edits.specs.Faults.{fault}
use Rattle.codespan_suggestions.specs.Views.{SuggestionView}
use Rattle.report.specs.Scripts.{ScriptView}
use Rattle.report.specs.Suggestions.{suggestion_of}

-- a statement: what one line of a script states; a label's message and an edit's replacement may be
-- left out, and a comment and an empty line state nothing
pub data Statement : Type 0 where
  SeverityLine : Severity → Statement
  CodeLine : List ℕ → Statement
  MessageLine : List ℕ → Statement
  WidthLine : ℕ → Statement
  LabelLine : LabelStyle → Range ℕ → Option (List ℕ) → Statement
  NoteLine : List ℕ → Statement
  SuggestionLine : List ℕ → Statement
  EditLine : Range ℕ → Option (List ℕ) → Statement
  CommentLine : List ℕ → Statement
  EmptyLine : Statement

-- the text can be a suffix of a line: it has no newline, and does not end in a carriage return
pub record IsLineSuffix (text : List ℕ) : Type 0 where
  pub no_newline : All (λ b. b ≢ 10) text
  pub no_carriage_return : slice_index text (length text - 1) ≢ 13

-- a line can state it: its text can be a suffix of a line, and a width and the numbers of a label
-- or of an edit fit a usize; a replacement can be any text
abbrev pub IsStatable : Statement → Type 0
IsStatable (SeverityLine severity) = Unit {0}
IsStatable (CodeLine text) = IsLineSuffix text
IsStatable (MessageLine text) = IsLineSuffix text
IsStatable (WidthLine width) = width < 2 ^ 64
IsStatable (LabelLine style range message) =
    (range.start < 2 ^ 64) × (range.end < 2 ^ 64) × IfSome message IsLineSuffix
IsStatable (NoteLine text) = IsLineSuffix text
IsStatable (SuggestionLine text) = IsLineSuffix text
IsStatable (EditLine range replacement) = (range.start < 2 ^ 64) × (range.end < 2 ^ 64)
IsStatable (CommentLine text) = IsLineSuffix text
IsStatable EmptyLine = Unit {0}

-- ---- what statements state

-- the severity of a statement
abbrev pub severity_stated : Statement → Option Severity
severity_stated (SeverityLine severity) = Some severity
severity_stated _ = None

-- the code of a statement
abbrev pub code_stated : Statement → Option (List ℕ)
code_stated (CodeLine text) = Some text
code_stated _ = None

-- the message of a statement
abbrev pub message_stated : Statement → Option (List ℕ)
message_stated (MessageLine text) = Some text
message_stated _ = None

-- the width of a statement
abbrev pub width_stated : Statement → Option ℕ
width_stated (WidthLine width) = Some width
width_stated _ = None

-- the label of a statement
abbrev pub label_stated : Statement → Option (LabelView (Unit {0}))
label_stated (LabelLine style range message) =
    Some (record { style = style; file_id = tt; range = range; message = unwrap_or message [] })
label_stated _ = None

-- the note of a statement
abbrev pub note_stated : Statement → Option (List ℕ)
note_stated (NoteLine text) = Some text
note_stated _ = None

-- the first severity, code, message or width that statements state, if they state one
abbrev pub first_stated : {T : Type 0} → (Statement → Option T) → List Statement → Option T
first_stated stated statements = slice_get (filter_map stated statements) 0

-- what statements state together: the severity, `Error` without one; the code; the message, empty
-- without one; and the labels and notes in their order
abbrev pub stated_diagnostic : List Statement → DiagnosticView (Unit {0})
stated_diagnostic statements = record {
  severity = unwrap_or (first_stated severity_stated statements) Error;
  code = first_stated code_stated statements;
  message = unwrap_or (first_stated message_stated statements) [];
  labels = filter_map label_stated statements;
  notes = filter_map note_stated statements;
}

-- the edits of a suggestion, of the statements after it: those up to the next suggestion
abbrev pub stated_edits : List Statement → List TextEdit
stated_edits [] = []
stated_edits (SuggestionLine message ∷ statements) = []
stated_edits (EditLine range replacement ∷ statements) =
    record {
      start = range.start;
      end = range.end;
      replacement = unwrap_or replacement [];
    } ∷ stated_edits statements
stated_edits (_ ∷ statements) = stated_edits statements

-- all suggestions, in their order
abbrev pub stated_suggestions : List Statement → List (SuggestionView (Unit {0}))
stated_suggestions [] = []
stated_suggestions (SuggestionLine message ∷ statements) =
    suggestion_of message (stated_edits statements) ∷ stated_suggestions statements
stated_suggestions (_ ∷ statements) = stated_suggestions statements

-- what statements and a source state together
abbrev pub stated_script : List Statement → List ℕ → ScriptView
stated_script statements source = record {
  diagnostic = stated_diagnostic statements;
  max_width = first_stated width_stated statements;
  suggestions = stated_suggestions statements;
  source = source;
}

-- statements that make a script: lines can state them, there is at most one severity, one code, one
-- message and one width, and no edit comes before the first suggestion
pub record AreScript (statements : List Statement) : Type 0 where
  pub statable : All IsStatable statements
  pub one_severity : length (filter_map severity_stated statements) ≤ 1
  pub one_code : length (filter_map code_stated statements) ≤ 1
  pub one_message : length (filter_map message_stated statements) ≤ 1
  pub one_width : length (filter_map width_stated statements) ≤ 1
  pub edits_belong : stated_edits statements ≡ []

-- the edits of a suggestion can be made in the source
abbrev pub CanBeMade : List ℕ → SuggestionView (Unit {0}) → Type 0
CanBeMade source suggestion =
    fault source (map (λ edit. edit.edit) suggestion.edits) ≡ None

-- ---- how statements are written

-- the word of a label's style
abbrev pub label_word : LabelStyle → List ℕ
label_word Primary = codes "primary"
label_word Secondary = codes "secondary"

-- two fields, with one space between them
abbrev pub joined_fields : List ℕ → List ℕ → List ℕ
joined_fields first second = first ++ 32 ∷ second

-- the fields of a label or of an edit: its start, its end, and its text, if it has one
abbrev pub label_fields : Range ℕ → Option (List ℕ) → List ℕ
label_fields range None = joined_fields (decimal range.start) (decimal range.end)
label_fields range (Some message) =
    joined_fields (decimal range.start) (joined_fields (decimal range.end) message)

-- a byte as it is written in a replacement: the newline, the carriage return and the backslash by
-- their escapes
abbrev pub escaped_byte : ℕ → List ℕ
escaped_byte b =
    if b == 10 then codes "\\n"
    else if b == 13 then codes "\\r"
    else if b == 92 then codes "\\\\"
    else b ∷ []

-- a replacement as it is written
abbrev pub escaped : List ℕ → List ℕ
escaped replacement = flat_map escaped_byte replacement

-- the line of a statement
abbrev pub statement_line : Statement → List ℕ
statement_line (SeverityLine severity) = joined_fields (codes "severity") (severity_name severity)
statement_line (CodeLine text) = joined_fields (codes "code") text
statement_line (MessageLine text) = joined_fields (codes "message") text
statement_line (WidthLine width) = joined_fields (codes "width") (decimal width)
statement_line (LabelLine style range message) =
    joined_fields (label_word style) (label_fields range message)
statement_line (NoteLine text) = joined_fields (codes "note") text
statement_line (SuggestionLine text) = joined_fields (codes "suggestion") text
statement_line (EditLine range replacement) =
    joined_fields (codes "replace") (label_fields range (option_map escaped replacement))
statement_line (CommentLine text) = 35 ∷ text
statement_line EmptyLine = []

-- a line and its newline
abbrev pub terminated_line : List ℕ → List ℕ
terminated_line line = line ++ 10 ∷ []

-- a script and its source: the lines of the statements, the line `---`, and the source
abbrev pub written_script : List Statement → List ℕ → List ℕ
written_script statements source =
    flat_map (λ s. terminated_line (statement_line s)) statements
    ++ (terminated_line (codes "---") ++ source)
