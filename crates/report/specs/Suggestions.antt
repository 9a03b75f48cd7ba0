-- The suggestions of a script, and the first error of their edits.
use Rattle.std.specs.Prelude.{◌≡◌, ℕ, List, [], ◌∷◌, map, Option, Some, None, Result}
use Rattle.std.specs.Prelude.{MatchResult, codes, if◌then◌else◌, unwrap_or}
use Rattle.std.specs.List.{slice_get}
use Rattle.std.specs.Option.{option_map, option_and_then}
use Rattle.std.specs.Result.{result_ok}
use Rattle.std.specs.Str.{bytes_eq}
use Rattle.std.specs.declared.ops.Range.{Range}
use Rattle.codespan_edits.specs.Edits.{TextEdit}
use Rattle.codespan_edits.specs.Faults as of_edits
use Rattle.codespan_edits.specs.declared.error.EditError.{EditError}
use Rattle.codespan_edits.specs.declared.error.EditError.TheVariants as edit_errors
use Rattle.codespan_suggestions.specs.Views.{SuggestionView}
use Rattle.codespan_suggestions.specs.declared.suggestion.Applicability.TheVariants.{Unspecified}
use Rattle.program_io.specs.Escapes.{unescaped}
use Rattle.program_io.specs.Fields.{field_of, past_space}
use Rattle.report.specs.declared.script.BadEdit.{BadEdit}
use Rattle.report.specs.declared.script.BadEdit.TheVariants as reasons
use Rattle.report.specs.declared.script.Fault.{Fault}
use Rattle.report.specs.declared.script.FaultKind.TheVariants as kinds
use Rattle.report.specs.declared.script.ScriptError.{ScriptError}
use Rattle.report.specs.declared.script.ScriptError.TheVariants as errors
use Rattle.report.specs.Requests.{number_of}
use Rattle.report.specs.ScriptFaults.{fault_at, or_fault}
use Rattle.report.specs.ScriptLines.{ScriptLineView, ends_range, replacement_of, rest_of, word_of}

-- ---- what lines state

-- the lines that state the edits of a suggestion, of the lines after its own: those that begin with
-- `replace`, up to the next `suggestion`
abbrev pub edit_lines : List ScriptLineView → List ScriptLineView
edit_lines [] = []
edit_lines (line ∷ lines) =
    if bytes_eq (word_of line) (codes "suggestion") then []
    else if bytes_eq (word_of line) (codes "replace") then line ∷ edit_lines lines
    else edit_lines lines

-- the edit that a line without an error states: its start, its end, and its text without escapes
abbrev pub parsed_edit : ScriptLineView → TextEdit
parsed_edit line =
    let rest = rest_of line in
    record {
      start = unwrap_or (number_of (field_of rest)) 0;
      end = unwrap_or (number_of (field_of (past_space rest))) 0;
      replacement = unwrap_or (result_ok (unescaped (replacement_of line))) [];
    }

-- a suggestion by its message and by the edits of the one file
abbrev pub suggestion_of : List ℕ → List TextEdit → SuggestionView (Unit {0})
suggestion_of message edits = record {
  message = message;
  applicability = Unspecified;
  edits = map (λ edit. record { file_id = tt; edit = edit }) edits;
}

-- the suggestion of a message and of the lines that state its edits
abbrev pub parsed_suggestion : List ℕ → List ScriptLineView → SuggestionView (Unit {0})
parsed_suggestion message lines = suggestion_of message (map parsed_edit lines)

-- all suggestions, in the order of their lines
abbrev pub parsed_suggestions : List ScriptLineView → List (SuggestionView (Unit {0}))
parsed_suggestions [] = []
parsed_suggestions (line ∷ lines) =
    if bytes_eq (word_of line) (codes "suggestion")
    then parsed_suggestion (rest_of line) (edit_lines lines) ∷ parsed_suggestions lines
    else parsed_suggestions lines

-- ---- the first error of their edits

-- the range of the numbers of the edit with this index, if there is one
abbrev pub range_of_edit : List ScriptLineView → ℕ → Option (Range ℕ)
range_of_edit lines i = option_map ends_range (slice_get lines i)

-- the error of the edit with this index, for this reason
abbrev pub bad_edit : List ScriptLineView → ℕ → BadEdit → Option Fault
bad_edit lines i reason = option_map (fault_at (kinds.BadEdit reason)) (range_of_edit lines i)

-- the error of a script whose edits, stated by these lines, have an error
abbrev pub fault_of_edits : List ScriptLineView → EditError → Option Fault
fault_of_edits lines (edit_errors.Reversed edit) = bad_edit lines edit reasons.Reversed
fault_of_edits lines (edit_errors.PastEnd edit len) = bad_edit lines edit (reasons.PastEnd len)
fault_of_edits lines (edit_errors.NotCharBoundary edit byte) =
    bad_edit lines edit (reasons.NotCharBoundary byte)
fault_of_edits lines (edit_errors.Overlap edit other) =
    option_map (λ (fault : Fault). record fault { first = range_of_edit lines other })
    (bad_edit lines edit reasons.Overlap)
fault_of_edits lines edit_errors.OutOfMemory = None

-- the error of a suggestion whose edits these lines state, over the source
abbrev pub edits_fault : List ℕ → List ScriptLineView → Option Fault
edits_fault source lines =
    option_and_then (fault_of_edits lines) (of_edits.fault source (map parsed_edit lines))

-- the error of the first suggestion with one
abbrev pub suggestions_fault : List ℕ → List ScriptLineView → Option Fault
suggestions_fault source [] = None
suggestions_fault source (line ∷ lines) =
    if bytes_eq (word_of line) (codes "suggestion")
    then or_fault (edits_fault source (edit_lines lines)) (suggestions_fault source lines)
    else suggestions_fault source lines

-- the call fails with this error, out of memory aside
abbrev pub IsFaultOrMemory : Option Fault → ScriptError → Type 0
IsFaultOrMemory fault (errors.Fault f) = fault ≡ Some f
IsFaultOrMemory fault errors.OutOfMemory = Unit {0}

-- where the call succeeds there is no such error, and where it fails it returns this error or that
-- it is out of memory
abbrev pub FailsBy : {T : Type 0} → Option Fault → Result T ScriptError → Type 0
FailsBy fault r = MatchResult r (λ _. fault ≡ None) (IsFaultOrMemory fault)
