-- Suggestions by the values of their fields, with texts as bytes.
use Rattle.std.specs.Prelude.{ℕ, List, map, string_bytes}
use Rattle.codespan_edits.specs.Edits.{TextEdit, text_edit}
use Rattle.codespan_edits.specs.declared.edit.Edit.{Edit}
use Rattle.codespan_suggestions.specs.declared.suggestion.Applicability.{Applicability}
use Rattle.codespan_suggestions.specs.declared.suggestion.Suggestion.{Suggestion}

-- an edit by its fields: its file, and the edit of its text
pub record EditView (FileId : Type 0) : Type 0 where
  pub file_id : FileId
  pub edit : TextEdit

-- the view of an edit
abbrev pub edit_view : {FileId : Type 0} → Edit FileId → EditView FileId
edit_view edit = record { file_id = edit.file_id; edit = text_edit edit }

-- a suggestion by its fields
pub record SuggestionView (FileId : Type 0) : Type 0 where
  pub message : List ℕ
  pub applicability : Applicability
  pub edits : List (EditView FileId)

-- the view of a suggestion
abbrev pub suggestion_view : {FileId : Type 0} → Suggestion FileId → SuggestionView FileId
suggestion_view suggestion = record {
  message = string_bytes suggestion.message;
  applicability = suggestion.applicability;
  edits = map edit_view suggestion.edits.items;
}
