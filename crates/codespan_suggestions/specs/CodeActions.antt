-- A suggestion as a code action of an editor, and the error of the call that makes it.
use Rattle.std.specs.Prelude.{ℕ, Bool, true, false, List, map, Option, string_bytes}
use Rattle.std.specs.Option.{option_map, option_or}
use Rattle.std.specs.declared.ops.Range as ops
use Rattle.codespan_core.specs.FileModel.{FileDatabase, FileModel, Lookup}
use Rattle.codespan_core.specs.declared.files.error.Error.{Error}
use Rattle.codespan_edits.specs.Edits as of_edits
use Rattle.codespan_edits.specs.declared.edit.Edit.{Edit}
use Rattle.codespan_lsp.specs.Positions.{first_failure}
use Rattle.codespan_lsp.specs.Ranges.{range_of, range_failure}
use Rattle.codespan_lsp.specs.declared.encoding.PositionEncoding.{PositionEncoding}
use Rattle.codespan_lsp.specs.declared.spans.Range.{Range}
use Rattle.codespan_suggestions.specs.EditedFiles.{edited_files, edits_of_file}
use Rattle.codespan_suggestions.specs.Faults.{file_fault, first_fault}
use Rattle.codespan_suggestions.specs.declared.action.CodeAction.{CodeAction}
use Rattle.codespan_suggestions.specs.declared.action.CodeActionKind.{CodeActionKind}
use Rattle.codespan_suggestions.specs.declared.action.CodeActionKind.TheVariants.{QuickFix}
use Rattle.codespan_suggestions.specs.declared.action.FileTextEdits.{FileTextEdits}
use Rattle.codespan_suggestions.specs.declared.action.TextEdit.{TextEdit}
use Rattle.codespan_suggestions.specs.declared.error.SuggestionError.{SuggestionError}
use Rattle.codespan_suggestions.specs.declared.error.SuggestionError.TheVariants.{Files}
use Rattle.codespan_suggestions.specs.declared.suggestion.Applicability.{Applicability}
use Rattle.codespan_suggestions.specs.declared.suggestion.Applicability.TheVariants.{MachineApplicable}
use Rattle.codespan_suggestions.specs.declared.suggestion.Suggestion.{Suggestion}

-- a text edit by its fields, its text as bytes
pub record TextEditView : Type 0 where
  pub range : Range
  pub new_text : List ℕ

-- the view of a text edit
abbrev pub text_edit_view : TextEdit → TextEditView
text_edit_view edit = record { range = edit.range; new_text = string_bytes edit.new_text }

-- a code action by its fields: each file with its text edits
pub record ActionView (Id : Type 0) : Type 0 where
  pub title : List ℕ
  pub kind : CodeActionKind
  pub is_preferred : Bool
  pub edit : List (Id × List TextEditView)

-- the view of the text edits of a file
abbrev pub file_view : {Id : Type 0} → FileTextEdits Id → Id × List TextEditView
file_view file = (file.file_id, map text_edit_view file.text_edits.items)

-- the view of a code action
abbrev pub action_view : {Id : Type 0} → CodeAction Id → ActionView Id
action_view action = record {
  title = string_bytes action.title;
  kind = action.kind;
  is_preferred = action.is_preferred;
  edit = map file_view action.edit.items;
}

-- whether a suggestion is preferred: it may be applied without asking
abbrev pub is_preferred : Applicability → Bool
is_preferred MachineApplicable = true
is_preferred _ = false

-- the bytes that an edit replaces
abbrev pub span_of : of_edits.TextEdit → ops.Range ℕ
span_of edit = record { start = edit.start; end = edit.end }

-- the text edit of an edit: its range, and its replacement
abbrev pub text_edit_of : PositionEncoding → FileModel → of_edits.TextEdit → TextEditView
text_edit_of encoding f edit = record {
  range = range_of encoding f (span_of edit);
  new_text = edit.replacement;
}

-- the error of the positions of its range
abbrev pub edit_failure : PositionEncoding → FileModel → (Lookup → Option Error)
    → of_edits.TextEdit → Option Error
edit_failure encoding f failure edit = range_failure encoding f failure (span_of edit)

module _ {Id : Type 0} (encoding : PositionEncoding) (database : FileDatabase Id)
    (edits : List (Edit Id)) where
  -- the edits of a file in their order
  abbrev pub ordered_of_file : Id → List of_edits.TextEdit
  ordered_of_file id = of_edits.ordered (edits_of_file database.same edits id)

  -- its text edits, in this order
  abbrev pub file_text_edits : Id → List TextEditView
  file_text_edits id =
      map (text_edit_of encoding (database.file id)) (ordered_of_file id)

  -- the first error of their positions
  abbrev pub positions_failure : Id → Option Error
  positions_failure id =
      first_failure
      (map (edit_failure encoding (database.file id) (database.failure id)) (ordered_of_file id))

  -- what is wrong with a file: its source, its edits, or else their positions
  abbrev pub action_file_fault : Id → Option SuggestionError
  action_file_fault id =
      option_or (file_fault database edits id) (option_map Files (positions_failure id))

  -- what is wrong with the first file with which anything is
  abbrev pub action_fault : Option SuggestionError
  action_fault = first_fault (map action_file_fault (edited_files database.same edits))

-- the code action of a suggestion
abbrev pub action_of : {Id : Type 0} → PositionEncoding → FileDatabase Id → Suggestion Id
    → ActionView Id
action_of {Id} encoding database suggestion = record {
  title = string_bytes suggestion.message;
  kind = QuickFix;
  is_preferred = is_preferred suggestion.applicability;
  edit =
      map {B = Id × List TextEditView}
      (λ (id : Id). (id, file_text_edits encoding database suggestion.edits.items id))
      (edited_files database.same suggestion.edits.items);
}
