-- The names of files where they are stated, for the clause of `stated_names_are_written`.
use Rattle.codespan_core.proofs.Std.{◌≡◌, ℕ, List, [], ◌∷◌, map, refl, sym, ap, ap₂}
use Rattle.codespan_core.proofs.Std.{◌∙◌, subst, Option, Some, None, IfSome, unwrap_or}
use Rattle.codespan_core.proofs.Std.{AllByRecursion, recursion_from_All}
use Rattle.std.specs.Prelude.{IsSome}
use Rattle.codespan_core.specs.FileModel.{FileDatabase, name_text}
use Rattle.codespan_suggestions.specs.EditedFiles.{edited_files}
use Rattle.codespan_suggestions.specs.NamedFiles.{IsNameOf}
use Rattle.codespan_suggestions.specs.WrittenLaws.{StatedNamesAreWritten}

-- a name that is stated
is-stated : (o : Option (List ℕ)) (name : List ℕ) → IsSome o
    → IfSome o (λ stated. name ≡ stated)
    → name ≡ unwrap_or o []
is-stated None name some is = absurd (cc)
is-stated (Some stated) name some is = is

module _ {Id : Type 0} (database : FileDatabase Id) where
  -- files with names have those that are stated
  names-are : (named : List (Id × List ℕ))
      → AllByRecursion (λ (id : Id). IsSome (database.file id).name)
      (map (λ (x : Id × List ℕ). x.0) named)
      → AllByRecursion (λ (x : Id × List ℕ). IsNameOf database x.0 x.1) named
      → named ≡ map {B = Id × List ℕ} (λ (id : Id). (id, name_text (database.file id)))
      (map (λ (x : Id × List ℕ). x.0) named)
  names-are [] some names = refl
  names-are (x ∷ xs) some names =
      ap₂ (λ (y : Id × List ℕ) (ys : List (Id × List ℕ)). y ∷ ys)
      (ap (λ (name : List ℕ). (x.0, name))
      (is-stated (database.file x.0).name x.1 some.0 names.0))
      (names-are xs some.1 names.1)

pub stated-names : {Id : Type 0} → StatedNamesAreWritten Id
stated-names {Id} database edits stated named are =
    names-are database named
    (subst (AllByRecursion (λ (id : Id). IsSome (database.file id).name)) (sym are.files)
    (recursion_from_All (λ (id : Id). IsSome (database.file id).name)
    (edited_files database.same edits) stated))
    (recursion_from_All (λ (x : Id × List ℕ). IsNameOf database x.0 x.1) named are.names)
    ∙ ap (λ (ids : List Id). map {B = Id × List ℕ}
    (λ (id : Id). (id, name_text (database.file id))) ids) are.files
