-- Laws of suggestions.
use Rattle.std.specs.Prelude.{◌≡◌, Bool, List, length, None, Some}
use Rattle.std.specs.Cmp.{IsEquivalence}
use Rattle.std.specs.List.{IsDistinct, list_any}
use Rattle.codespan_core.specs.FileModel.{FileDatabase}
use Rattle.codespan_edits.specs.EditLaws.{HaveSameEdits}
use Rattle.codespan_edits.specs.declared.edit.Edit.{Edit}
use Rattle.codespan_edits.specs.declared.error.EditError.{EditError}
use Rattle.codespan_suggestions.specs.EditedFiles.{edited_files, edits_of_file, edited_texts}
use Rattle.codespan_suggestions.specs.Faults.{NamesEdits, suggestion_fault}
use Rattle.codespan_suggestions.specs.declared.error.SuggestionError.TheVariants as of_edits

-- no two files of a suggestion are equal, and an id is equal to one of them exactly if it is to
-- that of an edit
pub record HasEachFileOnce {Id : Type 0} (same : Id → Id → Bool) (edits : List (Edit Id))
    : Type 0 where
  pub once : IsDistinct same (edited_files same edits)
  pub each : (id : Id)
      → list_any (λ (file : Id). same file id) (edited_files same edits)
      ≡ list_any (λ (edit : Edit Id). same edit.file_id id) edits

-- where ids are compared by an equivalence, each file of a suggestion comes once
abbrev pub FilesComeOnce : Type 0 → Type 0
FilesComeOnce Id = (same : Id → Id → Bool) → IsEquivalence same → (edits : List (Edit Id))
    → HasEachFileOnce same edits

-- where edits have a fault, it names edits of the list
abbrev pub ErrorsNameEdits : Type 0 → Type 0
ErrorsNameEdits Id = (database : FileDatabase Id) (edits : List (Edit Id)) (e : EditError)
    → suggestion_fault database edits ≡ Some (of_edits.Edit e) → NamesEdits (length edits) e

-- two lists have the same files in the same order, and of each file the same edits, the insertions
-- at a byte in the same order
pub record HaveSameEditsOfFiles {Id : Type 0} (same : Id → Id → Bool) (es fs : List (Edit Id))
    : Type 0 where
  pub files : edited_files same es ≡ edited_files same fs
  pub edits : (id : Id) → HaveSameEdits (edits_of_file same es id) (edits_of_file same fs id)

-- of the order of a list only that of the files and that of the insertions at a byte matters: where
-- one list has no fault the other has none, and they make the same
abbrev pub OrderMattersToFilesAndInsertions : Type 0 → Type 0
OrderMattersToFilesAndInsertions Id = (database : FileDatabase Id) (es fs : List (Edit Id))
    → HaveSameEditsOfFiles database.same es fs → suggestion_fault database es ≡ None
    → (suggestion_fault database fs ≡ None)
    × (edited_texts database fs ≡ edited_texts database es)
