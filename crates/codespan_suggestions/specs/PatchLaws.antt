-- What a unified diff, as it is read, is to the texts of its files.
use Rattle.std.specs.Prelude.{◌≡◌, ℕ, nat_lt, List, length, filter, map, Some, None}
use Rattle.std.specs.List.{AllByRecursion, AllZip}
use Rattle.codespan_core.specs.FileModel.{FileDatabase}
use Rattle.codespan_edits.specs.Edits.{TextEdit, edited}
use Rattle.codespan_edits.specs.Faults.{fault}
use Rattle.codespan_edits.specs.Diffs.{lines}
use Rattle.codespan_edits.specs.HunkLaws.{exchanged}
use Rattle.codespan_edits.specs.Numbers.{NumberedRow}
use Rattle.codespan_edits.specs.Patches.{patched}
use Rattle.codespan_edits.specs.declared.edit.Edit.{Edit}
use Rattle.codespan_suggestions.specs.EditedFiles.{edited_files, edits_of_file}
use Rattle.codespan_suggestions.specs.ReadPatches.{patch_read}
use Rattle.codespan_suggestions.specs.ReadingLaws.{IsText}
use Rattle.codespan_suggestions.specs.UnifiedDiffs.{IsUnifiedDiff, file_hunks}

-- rows make the lines of the text after the edits of those of the source, and with their signs and
-- numbers exchanged those of the source of the others
pub record ArePatch (source : List ℕ) (edits : List TextEdit) (rows : List NumberedRow) : Type 0
  where
    pub there : patched (lines source) rows ≡ Some (lines (edited source edits))
    pub back : patched (lines (edited source edits)) (map exchanged rows) ≡ Some (lines source)

-- edits have no fault
pub record CanBePatched (source : List ℕ) (edits : List TextEdit) : Type 0 where
  pub before : IsText source
  pub after : IsText (edited source edits)
  pub fine : fault source edits ≡ None

module _ {Id : Type 0} (database : FileDatabase Id) (edits : List (Edit Id)) where
  -- the files with hunks, in the order of their first edits
  abbrev pub patched_ids : List Id
  patched_ids =
      filter (λ id. nat_lt 0 (length (file_hunks database edits id)))
      (edited_files database.same edits)

  -- a text reads as rows of each file that changes, in their order, and these are a patch of its
  -- text, there and back
  abbrev pub TextIsPatch : List ℕ → Type 0
  TextIsPatch text =
      AllByRecursion
      (λ id. CanBePatched (database.file id).text (edits_of_file database.same edits id))
      (edited_files database.same edits)
      → AllZip
      (λ id rows. ArePatch (database.file id).text (edits_of_file database.same edits id) rows)
      patched_ids (patch_read text)

-- the unified diff of edits is a patch
abbrev pub UnifiedDiffsArePatches : Type 0 → Type 0
UnifiedDiffsArePatches Id = (database : FileDatabase Id) (edits : List (Edit Id))
    (text : List ℕ) → IsUnifiedDiff database edits text → TextIsPatch database edits text
