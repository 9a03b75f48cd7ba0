-- Suggestions with the same edits, for the clause of `order_matters_to_files_and_insertions`.
use Rattle.codespan_core.proofs.Std.{◌≡◌, List, [], ◌∷◌, map, Option, Some, None, refl}
use Rattle.codespan_core.proofs.Std.{option_map, ℕ}
use Rattle.std.specs.Option.{option_or}
use Rattle.codespan_core.specs.FileModel.{FileDatabase}
use Rattle.codespan_core.specs.FileModel.Lookup.{Source}
use Rattle.codespan_edits.specs.Faults.{fault}
use Rattle.codespan_edits.specs.EditLaws.{HaveSameEdits}
use Rattle.codespan_edits.specs.declared.edit.Edit as edit
use Rattle.codespan_edits.proofs.SameEdits.{order-matters-to-insertions}
use Rattle.codespan_suggestions.specs.EditedFiles.{edited_files, edits_of_file, indices_of_file}
use Rattle.codespan_suggestions.specs.EditedFiles.{edited_text}
use Rattle.codespan_suggestions.specs.Faults.{by_indices, file_fault, first_fault}
use Rattle.codespan_suggestions.specs.SuggestionLaws.{OrderMattersToFilesAndInsertions}
use Rattle.codespan_suggestions.specs.declared.error.SuggestionError.TheVariants.{Edit, Files}

-- neither of two is there
neither : {X : Type 0} (o p : Option X) → option_or o p ≡ None → (o ≡ None) × (p ≡ None)
neither None p h = (refl, h)
neither (Some x) p h = cc

-- what is made of one is not there
unmade : {X Y : Type 0} (f : X → Y) (o : Option X) → option_map f o ≡ None → o ≡ None
unmade f None h = refl
unmade f (Some x) h = cc

module _ {Id : Type 0} (database : FileDatabase Id) (es fs : List (edit.Edit Id))
    (same : (id : Id) → HaveSameEdits (edits_of_file database.same es id)
    (edits_of_file database.same fs id)) where
  -- a file without a fault has none, and the same text
  file-same : (id : Id) → file_fault database es id ≡ None
      → (file_fault database fs id ≡ None)
      × (edited_text database fs id ≡ edited_text database es id)
  file-same id h =
      let text = (database.file id).text in
      let parts = neither (option_map Files (database.failure id Source)) _ h in
      let none : fault text (edits_of_file database.same es id) ≡ None =
      unmade (by_indices (indices_of_file database.same es id)) _ (unmade Edit _ parts.1) in
      let moved = order-matters-to-insertions text (edits_of_file database.same es id)
      (edits_of_file database.same fs id) (same id) none in
      (rw (parts.0, moved.0) refl, moved.1)

  -- files without a fault have none, and the same texts
  files-same : (ids : List Id) → first_fault (map (file_fault database es) ids) ≡ None
      → (first_fault (map (file_fault database fs) ids) ≡ None)
      × (map {B = Id × List ℕ} (λ id. (id, edited_text database fs id)) ids
      ≡ map {B = Id × List ℕ} (λ id. (id, edited_text database es id)) ids)
  files-same [] h = (refl, refl)
  files-same (id ∷ ids) h =
      let parts = neither (file_fault database es id) _ h in
      let first = file-same id parts.0 in
      let rest = files-same ids parts.1 in
      (rw (first.0, rest.0) refl, rw (first.1, rest.1) refl)

pub order-matters : {Id : Type 0} → OrderMattersToFilesAndInsertions Id
order-matters {Id} database es fs same none =
    rw (← same.files) (files-same database es fs same.edits (edited_files database.same es) none)
