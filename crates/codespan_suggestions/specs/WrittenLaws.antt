-- Laws of what is written of the edits of a suggestion.
use Rattle.std.specs.Prelude.{◌≡◌, ℕ, ◌+◌, ◌^◌, ◌<◌, ◌≤◌, List, ◌++◌}
use Rattle.std.specs.Prelude.{map, length, All, IsSome}
use Rattle.std.specs.Str.{IsUtf8}
use Rattle.codespan_core.specs.FileModel.{FileDatabase, name_text}
use Rattle.codespan_edits.specs.Edits.{TextEdit}
use Rattle.codespan_edits.specs.declared.edit.Edit.{Edit}
use Rattle.codespan_suggestions.specs.EditedFiles.{edited_files}
use Rattle.codespan_suggestions.specs.FixIts.{fix_it}
use Rattle.codespan_suggestions.specs.NamedFiles.{AreNamedFiles}

-- the names of the files that edits change are stated
abbrev pub NamesAreStated : {Id : Type 0} → FileDatabase Id → List (Edit Id) → Type 0
NamesAreStated database edits =
    All (λ id. IsSome (database.file id).name) (edited_files database.same edits)

-- the files that edits change, each with the name that the database states
abbrev pub stated_files : {Id : Type 0} → FileDatabase Id → List (Edit Id)
    → List (Id × List ℕ)
stated_files {Id} database edits =
    map {B = Id × List ℕ} (λ (id : Id). (id, name_text (database.file id)))
    (edited_files database.same edits)

-- where names are stated, these are the names that files can have: so the calls that write names
-- can return one text
abbrev pub StatedNamesAreWritten : Type 0 → Type 0
StatedNamesAreWritten Id = (database : FileDatabase Id) (edits : List (Edit Id))
    → NamesAreStated database edits → (named : List (Id × List ℕ))
    → AreNamedFiles database edits named → named ≡ stated_files database edits

-- a list of bytes
abbrev pub AreBytes : List ℕ → Type 0
AreBytes = All (λ b. b < 256)

-- an edit is inside a text, and its replacement is a text
pub record IsInside (text : List ℕ) (edit : TextEdit) : Type 0 where
  pub start : edit.start ≤ length text
  pub end : edit.end ≤ length text
  pub replacement : AreBytes edit.replacement

-- two lines with what follows them are of one name and one edit
pub record IsSameFixIt (name other : List ℕ) (e f : TextEdit) (after behind : List ℕ)
    : Type 0 where
  pub name_is : name ≡ other
  pub edit_is : e ≡ f
  pub rest_is : after ≡ behind

-- a fix-it reads back: two that are written the same, whatever follows them, are of one name and
-- one edit
abbrev pub FixItsReadBack : Type 0
FixItsReadBack = (text : List ℕ) → IsUtf8 text → length text + 1 < 2 ^ 64
    → (name other : List ℕ) → AreBytes name → AreBytes other
    → (e f : TextEdit) → IsInside text e → IsInside text f → (after behind : List ℕ)
    → fix_it name text e ++ after ≡ fix_it other text f ++ behind
    → IsSameFixIt name other e f after behind
