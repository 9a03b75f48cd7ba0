-- The files of a suggestion with their names, for the calls that write these.
use Rattle.std.specs.Prelude.{◌≡◌, ◌≢◌, ℕ, List, map, All, IfSome, Option, Some, None}
use Rattle.std.specs.Prelude.{Result, MatchResult}
use Rattle.std.specs.Option.{option_map, option_or}
use Rattle.codespan_core.specs.FileModel.{FileDatabase}
use Rattle.codespan_core.specs.FileModel.Lookup.{Name}
use Rattle.codespan_core.specs.declared.files.error.Error.TheVariants as of_files
use Rattle.codespan_edits.specs.declared.edit.Edit.{Edit}
use Rattle.codespan_suggestions.specs.EditedFiles.{edited_files}
use Rattle.codespan_suggestions.specs.Faults.{file_fault, first_fault}
use Rattle.codespan_suggestions.specs.declared.error.SuggestionError.{SuggestionError}
use Rattle.codespan_suggestions.specs.declared.error.SuggestionError.TheVariants.{Files}

module _ {Id : Type 0} (database : FileDatabase Id) where
  -- a text is the name of a file, where the database states one
  abbrev pub IsNameOf : Id → List ℕ → Type 0
  IsNameOf id name = IfSome (database.file id).name (λ stated. name ≡ stated)

  module _ (edits : List (Edit Id)) where
    -- the files that edits change, in the order of their first edits, each with its name
    pub record AreNamedFiles (named : List (Id × List ℕ)) : Type 0 where
      pub files : map (λ (x : Id × List ℕ). x.0) named ≡ edited_files database.same edits
      pub names : All (λ (x : Id × List ℕ). IsNameOf x.0 x.1) named

    -- what is wrong with a file: its source, its edits, or else the lookup of its name
    abbrev pub named_file_fault : Id → Option SuggestionError
    named_file_fault id =
        option_or (file_fault database edits id) (option_map Files (database.failure id Name))

    -- what is wrong with the first file with which anything is
    abbrev pub named_files_fault : Option SuggestionError
    named_files_fault = first_fault (map named_file_fault (edited_files database.same edits))

-- the error is what is wrong with a file, `OutOfMemory`, or `FormatError`, as where the `Display`
-- of a name fails
abbrev pub IsFault : Option SuggestionError → SuggestionError → Type 0
IsFault o e = e ≢ Files of_files.OutOfMemory → e ≢ Files of_files.FormatError → o ≡ Some e

-- where the call succeeds nothing is wrong with a file, and where it fails its error is that
abbrev pub FailsByFault : {T : Type 0} → Option SuggestionError → Result T SuggestionError
    → Type 0
FailsByFault o r = MatchResult r (λ _. o ≡ None) (IsFault o)
