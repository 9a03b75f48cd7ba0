-- The diagnostics that a language server sends for a diagnostic, and the error of the call that
-- makes them.
use Rattle.std.specs.Prelude.{ℕ, not, List, map, filter, Option, string_bytes}
use Rattle.std.specs.Option.{option_map}
use Rattle.codespan_base.specs.FileModel.{FileDatabase, or_failure}
use Rattle.codespan_base.specs.Labels.{is_primary_style}
use Rattle.codespan_base.specs.declared.diagnostic.Label.{Label}
use Rattle.codespan_base.specs.declared.diagnostic.Diagnostic.{Diagnostic}
use Rattle.codespan_base.specs.declared.files.Error.{Error}
use Rattle.codespan_lsp.specs.Positions.{first_failure}
use Rattle.codespan_lsp.specs.Ranges.{ordered_span, range_of, range_failure}
use Rattle.codespan_lsp.specs.Severities.{lsp_severity}
use Rattle.codespan_lsp.specs.Messages.{full_message}
use Rattle.codespan_lsp.specs.declared.encoding.PositionEncoding.{PositionEncoding}
use Rattle.codespan_lsp.specs.declared.spans.Range.{Range}
use Rattle.codespan_lsp.specs.declared.severity.DiagnosticSeverity.{DiagnosticSeverity}
use Rattle.codespan_lsp.specs.declared.diagnostics.LspDiagnostic.{LspDiagnostic}
use Rattle.codespan_lsp.specs.declared.diagnostics.RelatedInformation.{RelatedInformation}

-- related information by the values of its fields, its message as bytes
pub record RelatedView (FileId : Type 0) : Type 0 where
  pub file_id : FileId
  pub range : Range
  pub message : List ℕ

-- the view of related information
abbrev pub related_view : {FileId : Type 0} → RelatedInformation FileId → RelatedView FileId
related_view related = record {
  file_id = related.file_id;
  range = related.range;
  message = string_bytes related.message;
}

-- a diagnostic by the values of its fields, its texts as bytes
pub record LspView (FileId : Type 0) : Type 0 where
  pub file_id : FileId
  pub range : Range
  pub severity : DiagnosticSeverity
  pub code : Option (List ℕ)
  pub message : List ℕ
  pub related : List (RelatedView FileId)

-- the view of a diagnostic
abbrev pub lsp_view : {FileId : Type 0} → LspDiagnostic FileId → LspView FileId
lsp_view found = record {
  file_id = found.file_id;
  range = found.range;
  severity = found.severity;
  code = option_map string_bytes found.code;
  message = string_bytes found.message;
  related = map related_view found.related_information.items;
}

-- the labels that are primary, and those that are not
abbrev pub primary_labels : {FileId : Type 0} → List (Label FileId) → List (Label FileId)
primary_labels labels = filter (λ label. is_primary_style label.style) labels

abbrev pub secondary_labels : {FileId : Type 0} → List (Label FileId) → List (Label FileId)
secondary_labels labels = filter (λ label. not (is_primary_style label.style)) labels

module _ {FileId : Type 0} (encoding : PositionEncoding) (database : FileDatabase FileId) where
  -- a label's range, that of its span in order, and the error of its lookup
  abbrev pub label_range : Label FileId → Range
  label_range label = range_of encoding (database.file label.file_id) (ordered_span label.range)

  abbrev pub label_range_failure : Label FileId → Option Error
  label_range_failure label =
      range_failure encoding (database.file label.file_id) (database.failure label.file_id)
      (ordered_span label.range)

  -- the related information of a label
  abbrev pub related_information_for : Label FileId → RelatedView FileId
  related_information_for label = record {
    file_id = label.file_id;
    range = label_range label;
    message = string_bytes label.message;
  }

  -- that of the secondary labels, and the error of their first lookup that fails
  abbrev pub related_information_of : List (Label FileId) → List (RelatedView FileId)
  related_information_of labels = map related_information_for (secondary_labels labels)

  abbrev pub related_failure : List (Label FileId) → Option Error
  related_failure labels = first_failure (map label_range_failure (secondary_labels labels))

  -- what is sent for a primary label, and the error of the first lookup for it that fails
  abbrev pub lsp_diagnostic_for : Diagnostic FileId → Label FileId → LspView FileId
  lsp_diagnostic_for d label = record {
    file_id = label.file_id;
    range = label_range label;
    severity = lsp_severity d.severity;
    code = option_map string_bytes d.code;
    message = full_message d label;
    related = related_information_of d.labels.items;
  }

  abbrev pub lsp_failure : Diagnostic FileId → Label FileId → Option Error
  lsp_failure d label = or_failure (label_range_failure label) (related_failure d.labels.items)

  -- what is sent for a diagnostic: one for each primary label, in their order; and the error of
  -- the first lookup that fails
  abbrev pub lsp_diagnostics : Diagnostic FileId → List (LspView FileId)
  lsp_diagnostics d = map (lsp_diagnostic_for d) (primary_labels d.labels.items)

  abbrev pub lsp_diagnostics_failure : Diagnostic FileId → Option Error
  lsp_diagnostics_failure d = first_failure (map (lsp_failure d) (primary_labels d.labels.items))
