-- What is wrong with a suggestion over a file database.
use Rattle.std.specs.Prelude.{◌≡◌, ◌≢◌, ◌<◌, ℕ, List, [], ◌∷◌, map}
use Rattle.std.specs.Prelude.{slice_index, Option, Some, None, Result, MatchResult}
use Rattle.std.specs.Option.{option_map, option_or}
use Rattle.codespan_core.specs.FileModel.{FileDatabase}
use Rattle.codespan_core.specs.FileModel.Lookup.{Source}
use Rattle.codespan_core.specs.declared.files.error.Error.TheVariants as of_files
use Rattle.codespan_edits.specs.Faults as of_edits
use Rattle.codespan_edits.specs.declared.edit.Edit as edit
use Rattle.codespan_edits.specs.declared.error.EditError.{EditError}
use Rattle.codespan_edits.specs.declared.error.EditError.TheVariants.{Reversed, PastEnd}
use Rattle.codespan_edits.specs.declared.error.EditError.TheVariants.{NotCharBoundary, Overlap}
use Rattle.codespan_edits.specs.declared.error.EditError.TheVariants.{OutOfMemory}
use Rattle.codespan_suggestions.specs.EditedFiles.{edited_files, indices_of_file, edits_of_file}
use Rattle.codespan_suggestions.specs.declared.error.SuggestionError.{SuggestionError}
use Rattle.codespan_suggestions.specs.declared.error.SuggestionError.TheVariants.{Edit, Files}

-- an error of a list of edits, of which each is named by another index
abbrev pub by_indices : List ℕ → EditError → EditError
by_indices indices (Reversed edit) = Reversed (slice_index indices edit)
by_indices indices (PastEnd edit len) = PastEnd (slice_index indices edit) len
by_indices indices (NotCharBoundary edit byte) = NotCharBoundary (slice_index indices edit) byte
by_indices indices (Overlap edit other) =
    Overlap (slice_index indices edit) (slice_index indices other)
by_indices indices OutOfMemory = OutOfMemory

-- an error names edits, each of which is one of so many
abbrev pub NamesEdits : ℕ → EditError → Type 0
NamesEdits count (Reversed edit) = edit < count
NamesEdits count (PastEnd edit len) = edit < count
NamesEdits count (NotCharBoundary edit byte) = edit < count
NamesEdits count (Overlap edit other) = (edit < count) × (other < count)
NamesEdits count OutOfMemory = ⊥

-- the first of some faults, if there is one
abbrev pub first_fault : List (Option SuggestionError) → Option SuggestionError
first_fault [] = None
first_fault (o ∷ os) = option_or o (first_fault os)

module _ {Id : Type 0} (database : FileDatabase Id) (edits : List (edit.Edit Id)) where
  -- what is wrong with the edits of a file, which are named by their indices in the list
  abbrev pub edits_fault : Id → Option EditError
  edits_fault id =
      option_map (by_indices (indices_of_file database.same edits id))
      (of_edits.fault (database.file id).text (edits_of_file database.same edits id))

  -- what is wrong with a file: the lookup of its source, or else its edits
  abbrev pub file_fault : Id → Option SuggestionError
  file_fault id =
      option_or (option_map Files (database.failure id Source)) (option_map Edit (edits_fault id))

  -- what is wrong with the first file, in the order of their first edits, with which anything is
  abbrev pub suggestion_fault : Option SuggestionError
  suggestion_fault = first_fault (map file_fault (edited_files database.same edits))

-- where the call succeeds there is no such error, and where it fails it returns this error or
-- `OutOfMemory`
abbrev pub FailsBy : {T : Type 0} → Option SuggestionError → Result T SuggestionError → Type 0
FailsBy o r =
    MatchResult r (λ _. o ≡ None) (λ e. e ≢ Files of_files.OutOfMemory → o ≡ Some e)
