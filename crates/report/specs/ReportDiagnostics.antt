-- The diagnostics of label requests and of scripts' errors.
use Rattle.std.specs.Prelude.{ℕ, List, [], ◌∷◌, ◌++◌, Option, Some, None, codes}
use Rattle.std.specs.Fmt.{decimal}
use Rattle.std.specs.declared.ops.Range.{Range}
use Rattle.codespan_core.specs.declared.diagnostic.LabelStyle.TheVariants.{Primary, Secondary}
use Rattle.codespan_core.specs.declared.diagnostic.Severity.TheVariants as severities
use Rattle.codespan_core.specs.Diagnostics.{DiagnosticView, LabelView}
use Rattle.report.specs.declared.script.Fault.{Fault}
use Rattle.report.specs.declared.script.FaultKind.{FaultKind}
use Rattle.report.specs.declared.script.FaultKind.TheVariants.{UnknownWord, UnknownSeverity}
use Rattle.report.specs.declared.script.FaultKind.TheVariants.{BadNumber, RepeatedWord}
use Rattle.report.specs.declared.script.FaultKind.TheVariants.{MissingEnd, NoSuggestion, BadEscape}
use Rattle.report.specs.declared.script.FaultKind.TheVariants as kinds
use Rattle.report.specs.declared.script.BadEdit.{BadEdit}
use Rattle.report.specs.declared.script.BadEdit.TheVariants.{Reversed, PastEnd, NotCharBoundary}
use Rattle.report.specs.declared.script.BadEdit.TheVariants.{Overlap}
use Rattle.report.specs.Requests.{LabelRequestView}

-- the diagnostic of a label request: an error with its message, and one primary label with the same
abbrev pub label_request_diagnostic : LabelRequestView → DiagnosticView (Unit {0})
label_request_diagnostic label_request = record {
  severity = severities.Error;
  code = None;
  message = label_request.message;
  labels = record {
    style = Primary;
    file_id = tt;
    range = record { start = label_request.start; end = label_request.end };
    message = label_request.message;
  } ∷ [];
  notes = [];
}

-- the code of a script's error
abbrev pub fault_code : FaultKind → List ℕ
fault_code UnknownWord = codes "S1"
fault_code UnknownSeverity = codes "S2"
fault_code BadNumber = codes "S3"
fault_code RepeatedWord = codes "S4"
fault_code MissingEnd = codes "S5"
fault_code NoSuggestion = codes "S6"
fault_code BadEscape = codes "S7"
fault_code (kinds.BadEdit reason) = codes "S8"

-- its message
abbrev pub fault_message : FaultKind → List ℕ
fault_message UnknownWord = codes "unknown word"
fault_message UnknownSeverity = codes "unknown severity"
fault_message BadNumber = codes "bad number"
fault_message RepeatedWord = codes "repeated word"
fault_message MissingEnd = codes "missing end of script"
fault_message NoSuggestion = codes "edit without suggestion"
fault_message BadEscape = codes "bad escape"
fault_message (kinds.BadEdit reason) = codes "bad edit"

-- why an edit cannot be made
abbrev pub bad_edit_message : BadEdit → List ℕ
bad_edit_message Reversed = codes "ends before it starts"
bad_edit_message (PastEnd len) = codes "the source ends at byte " ++ decimal len
bad_edit_message (NotCharBoundary byte) =
    codes "byte " ++ (decimal byte ++ codes " is not a character boundary")
bad_edit_message Overlap = codes "overlaps another edit"

-- the message of its primary label
abbrev pub fault_label_message : FaultKind → List ℕ
fault_label_message UnknownWord =
    codes "expected severity, code, message, width, primary, secondary, note, suggestion or replace"
fault_label_message UnknownSeverity = codes "expected bug, error, warning, note or help"
fault_label_message BadNumber = codes "expected a decimal number"
fault_label_message RepeatedWord = codes "given again"
fault_label_message MissingEnd = codes "expected ---"
fault_label_message NoSuggestion = codes "expected a suggestion before it"
fault_label_message BadEscape = codes "expected \\n, \\r, \\t, \\0, \\\\ or \\u{HEX}"
fault_label_message (kinds.BadEdit reason) = bad_edit_message reason

-- the message of the label over what comes first: the first occurrence of a repeated word, or the
-- edit that is overlapped
abbrev pub fault_first_message : FaultKind → List ℕ
fault_first_message (kinds.BadEdit reason) = codes "the other edit"
fault_first_message _ = codes "first given here"

-- the label over what comes first, if there is anything
abbrev pub label_of_first : FaultKind → Option (Range ℕ) → List (LabelView (Unit {0}))
label_of_first kind None = []
label_of_first kind (Some range) =
    record { style = Secondary; file_id = tt; range = range; message = fault_first_message kind }
    ∷ []

-- the diagnostic of a script's error: its code, and a primary label over its range
abbrev pub fault_diagnostic : Fault → DiagnosticView (Unit {0})
fault_diagnostic fault = record {
  severity = severities.Error;
  code = Some (fault_code fault.kind);
  message = fault_message fault.kind;
  labels = record {
    style = Primary;
    file_id = tt;
    range = fault.range;
    message = fault_label_message fault.kind;
  } ∷ label_of_first fault.kind fault.first;
  notes = [];
}
