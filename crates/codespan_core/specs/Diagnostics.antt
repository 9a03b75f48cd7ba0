-- Labels and diagnostics by the values of their fields, with texts as bytes, and the order of
-- severities and label styles.
use Rattle.std.specs.Prelude.{ℕ, List, map, Option, codes, string_bytes}
use Rattle.std.specs.Option.{option_map}
use Rattle.std.specs.declared.ops.Range.{Range}
use Rattle.codespan_core.specs.declared.diagnostic.Label.{Label}
use Rattle.codespan_core.specs.declared.diagnostic.LabelStyle.{LabelStyle}
use Rattle.codespan_core.specs.declared.diagnostic.LabelStyle.TheVariants.{Primary, Secondary}
use Rattle.codespan_core.specs.declared.diagnostic.Diagnostic.{Diagnostic}
use Rattle.codespan_core.specs.declared.diagnostic.Severity.{Severity}
use Rattle.codespan_core.specs.declared.diagnostic.Severity.TheVariants.{Help, Note, Warning, Error}
use Rattle.codespan_core.specs.declared.diagnostic.Severity.TheVariants.{Bug}
use Rattle.codespan_core.specs.declared.files.error.Error.TheVariants.{FormatError, OutOfMemory}
use Rattle.codespan_core.specs.declared.files.error.Error as failures

-- a label by its fields, its message as bytes
pub record LabelView (FileId : Type 0) : Type 0 where
  pub style : LabelStyle
  pub file_id : FileId
  pub range : Range ℕ
  pub message : List ℕ

-- the view of a label
abbrev pub label_view : {FileId : Type 0} → Label FileId → LabelView FileId
label_view label = record {
  style = label.style;
  file_id = label.file_id;
  range = label.range;
  message = string_bytes label.message;
}

-- a diagnostic by its fields, its texts as bytes
pub record DiagnosticView (FileId : Type 0) : Type 0 where
  pub severity : Severity
  pub code : Option (List ℕ)
  pub message : List ℕ
  pub labels : List (LabelView FileId)
  pub notes : List (List ℕ)

-- the view of a diagnostic
abbrev pub diagnostic_view : {FileId : Type 0} → Diagnostic FileId → DiagnosticView FileId
diagnostic_view diagnostic = record {
  severity = diagnostic.severity;
  code = option_map string_bytes diagnostic.code;
  message = string_bytes diagnostic.message;
  labels = map label_view diagnostic.labels.items;
  notes = map string_bytes diagnostic.notes.items;
}

-- the error is `FormatError` or `OutOfMemory`
abbrev pub IsDisplayError : failures.Error → Type 0
IsDisplayError FormatError = Unit {0}
IsDisplayError OutOfMemory = Unit {0}
IsDisplayError _ = ⊥

-- the name of a severity
abbrev pub severity_name : Severity → List ℕ
severity_name Bug = codes "bug"
severity_name Error = codes "error"
severity_name Warning = codes "warning"
severity_name Note = codes "note"
severity_name Help = codes "help"

-- the rank of a severity in their order, from help to bug
abbrev pub severity_rank : Severity → ℕ
severity_rank Help = 0
severity_rank Note = 1
severity_rank Warning = 2
severity_rank Error = 3
severity_rank Bug = 4

-- the rank of a label's style in their order
abbrev pub style_rank : LabelStyle → ℕ
style_rank Primary = 0
style_rank Secondary = 1
