-- The files that a suggestion edits, the edits of each, and the texts that they make.
use Rattle.std.specs.Prelude.{ℕ, Bool, List, map, filter, String, Vec, string_bytes}
use Rattle.std.specs.Global.{Global}
use Rattle.std.specs.List.{enumerate_from}
use Rattle.codespan_core.specs.FileModel.{FileDatabase}
use Rattle.codespan_core.specs.Labels.{first_seen}
use Rattle.codespan_edits.specs.Edits.{TextEdit, text_edit, edited}
use Rattle.codespan_edits.specs.declared.edit.Edit.{Edit}

module _ {Id : Type 0} (same : Id → Id → Bool) (edits : List (Edit Id)) where
  -- the ids of the edits' files, in the order of their first edits
  abbrev pub edited_files : List Id
  edited_files = first_seen same (map (λ (edit : Edit Id). edit.file_id) edits)

  -- the edits of a file, each with its index in the list
  abbrev pub indexed_edits : Id → List (ℕ × Edit Id)
  indexed_edits id =
      filter (λ (x : ℕ × Edit Id). same id x.1.file_id) (enumerate_from 0 edits)

  -- their indices
  abbrev pub indices_of_file : Id → List ℕ
  indices_of_file id = map (λ (x : ℕ × Edit Id). x.0) (indexed_edits id)

  -- what they are of its text
  abbrev pub edits_of_file : Id → List TextEdit
  edits_of_file id = map (λ (x : ℕ × Edit Id). text_edit x.1) (indexed_edits id)

module _ {Id : Type 0} (database : FileDatabase Id) (edits : List (Edit Id)) where
  -- the text of a file after its edits
  abbrev pub edited_text : Id → List ℕ
  edited_text id = edited (database.file id).text (edits_of_file database.same edits id)

  -- each file with that text
  abbrev pub edited_texts : List (Id × List ℕ)
  edited_texts = map (λ (id : Id). (id, edited_text id)) (edited_files database.same edits)

-- files with their texts, as bytes
abbrev pub texts_view : {Id : Type 0} → Vec (Id × String Global) Global → List (Id × List ℕ)
texts_view {Id} texts = map (λ (x : Id × String Global). (x.0, string_bytes x.1)) texts.items
