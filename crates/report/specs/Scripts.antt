-- What a script states.
use Rattle.std.specs.Prelude.{ℕ, List, [], map, Option, Some, None, Result, Ok, Err, codes}
use Rattle.std.specs.Prelude.{if◌then◌else◌, unwrap_or}
use Rattle.std.specs.Borrow.{Bor}
use Rattle.std.specs.List.{filter_map}
use Rattle.std.specs.Option.{option_map, option_and_then}
use Rattle.std.specs.Str.{bytes_eq}
use Rattle.std.specs.declared.ops.Range.{Range}
use Rattle.codespan_core.specs.Diagnostics.{DiagnosticView, LabelView}
use Rattle.codespan_core.specs.declared.diagnostic.LabelStyle.{LabelStyle}
use Rattle.codespan_core.specs.declared.diagnostic.LabelStyle.TheVariants as styles
use Rattle.codespan_core.specs.declared.diagnostic.Severity.{Severity}
use Rattle.codespan_core.specs.declared.diagnostic.Severity.TheVariants as severities
use Rattle.codespan_suggestions.specs.Views.{SuggestionView, suggestion_view}
use Rattle.program_io.specs.Fields.{field_of, past_space}
use Rattle.program_io.specs.Names.{severity_named}
use Rattle.report.specs.declared.script.Fault.{Fault}
use Rattle.report.specs.declared.script.Script.{Script}
use Rattle.report.specs.declared.script.words.Word.{Word}
use Rattle.report.specs.declared.script.words.Word.TheVariants.{Primary, Secondary}
use Rattle.report.specs.Requests.{number_of}
use Rattle.report.specs.ScriptFaults.{line_of_word, fault_from, missing_end}
use Rattle.report.specs.ScriptLines.{ScriptLineView, script_lines, body, script_source}
use Rattle.report.specs.ScriptLines.{word_of, rest_of}
use Rattle.report.specs.ScriptWords.{script_word_named}
use Rattle.report.specs.Suggestions.{parsed_suggestions, suggestions_fault}

-- what a script states: a diagnostic and suggestions of one file, the width that rows should fit,
-- and that file's source
pub record ScriptView : Type 0 where
  pub diagnostic : DiagnosticView (Unit {0})
  pub max_width : Option ℕ
  pub suggestions : List (SuggestionView (Unit {0}))
  pub source : List ℕ

-- a label by its style, its range and its message's bytes
abbrev pub script_label_view : LabelStyle × Range ℕ × Bor (List ℕ) → LabelView (Unit {0})
script_label_view label =
    record { style = label.0; file_id = tt; range = label.1; message = label.2.now }

-- a script by its fields, its texts as bytes
abbrev pub script_view : Script → ScriptView
script_view script = record {
  diagnostic = record {
    severity = script.severity;
    code = option_map (λ code. code.now) script.code;
    message = script.message.now;
    labels = map script_label_view script.labels.items;
    notes = map (λ note. note.now) script.notes.items;
  };
  max_width = script.max_width;
  suggestions = map suggestion_view script.suggestions.items;
  source = script.source.now;
}

-- the rest of the first line that begins with the word
abbrev pub rest_of_word : List ℕ → List ScriptLineView → Option (List ℕ)
rest_of_word word lines = option_map rest_of (line_of_word word lines)

-- the severity that the lines state; `Error` if they state none
unfoldable pub parsed_severity : List ScriptLineView → Severity
parsed_severity lines =
    unwrap_or (option_and_then severity_named (rest_of_word (codes "severity") lines))
    severities.Error

-- the width that the lines state, if they state one
abbrev pub parsed_width : List ScriptLineView → Option ℕ
parsed_width lines = option_and_then number_of (rest_of_word (codes "width") lines)

-- a label from the numbers of its start and its end
abbrev pub label_with_ends : LabelStyle → List ℕ → Option ℕ → Option ℕ
    → Option (LabelView (Unit {0}))
label_with_ends style message (Some start) (Some end) =
    Some (record {
      style = style;
      file_id = tt;
      range = record { start = start; end = end };
      message = message;
    })
label_with_ends style message (Some start) None = None
label_with_ends style message None end = None

-- the label of a style that a rest states: its start, its end, and then its message
abbrev pub label_of_rest : LabelStyle → List ℕ → Option (LabelView (Unit {0}))
label_of_rest style rest =
    label_with_ends style (past_space (past_space rest)) (number_of (field_of rest))
    (number_of (field_of (past_space rest)))

-- the label of a line with this word
abbrev pub label_by_word : ScriptLineView → Option Word → Option (LabelView (Unit {0}))
label_by_word line (Some Primary) = label_of_rest styles.Primary (rest_of line)
label_by_word line (Some Secondary) = label_of_rest styles.Secondary (rest_of line)
label_by_word line _ = None

-- the label of a line, if it states one
unfoldable pub parsed_label : ScriptLineView → Option (LabelView (Unit {0}))
parsed_label line = label_by_word line (script_word_named (word_of line))

-- all labels, in the order of their lines
abbrev pub parsed_labels : List ScriptLineView → List (LabelView (Unit {0}))
parsed_labels lines = filter_map parsed_label lines

-- the note of a line, if it states one
abbrev pub parsed_note : ScriptLineView → Option (List ℕ)
parsed_note line = if bytes_eq (word_of line) (codes "note") then Some (rest_of line) else None

-- all notes, in the order of their lines
abbrev pub parsed_notes : List ScriptLineView → List (List ℕ)
parsed_notes lines = filter_map parsed_note lines

-- what lines state
abbrev pub script_diagnostic : List ScriptLineView → DiagnosticView (Unit {0})
script_diagnostic lines = record {
  severity = parsed_severity lines;
  code = rest_of_word (codes "code") lines;
  message = unwrap_or (rest_of_word (codes "message") lines) [];
  labels = parsed_labels lines;
  notes = parsed_notes lines;
}

-- what lines and a source state, unless an edit of the source cannot be made: that is the error
abbrev pub parsed_statements : List ScriptLineView → List ℕ → Option Fault
    → Result ScriptView Fault
parsed_statements lines source (Some fault) = Err fault
parsed_statements lines source None =
    Ok (record {
      diagnostic = script_diagnostic lines;
      max_width = parsed_width lines;
      suggestions = parsed_suggestions lines;
      source = source;
    })

-- what lines parse to, by their first error and the source: the error, if there is one; else that
-- the end is missing, if there is no source; else what they state
abbrev pub parsed_lines : List ℕ → List ScriptLineView → Option Fault → Option (List ℕ)
    → Result ScriptView Fault
parsed_lines input lines (Some fault) source = Err fault
parsed_lines input lines None None = Err (missing_end input)
parsed_lines input lines None (Some source) =
    parsed_statements lines source (suggestions_fault source lines)

-- what an input states as a script, or its first error
unfoldable pub parsed_script : List ℕ → Result ScriptView Fault
parsed_script input =
    parsed_lines input (body (script_lines input)) (fault_from [] (body (script_lines input)))
    (script_source input (script_lines input))
