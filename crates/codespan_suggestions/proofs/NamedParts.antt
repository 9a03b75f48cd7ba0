-- Texts that have a part for each file, with its name, for the clause `text` of calls that write
-- names.
use Rattle.codespan_core.proofs.Std.{◌≡◌, ℕ, ◌+◌, ◌<◌, List, [], ◌∷◌}
use Rattle.codespan_core.proofs.Std.{◌++◌, map, take, length, get_or, sym, ◌∙◌, ap, ap₂}
use Rattle.codespan_core.proofs.Std.{refl, take_more, map-append, take_all, ◌≤◌, append-nil}
use Rattle.codespan_core.proofs.Std.{flat_map, flat_map-append, AllByRecursion, All-from_recursion}
use Rattle.codespan_core.specs.FileModel.{FileDatabase}
use Rattle.codespan_edits.specs.declared.edit.Edit.{Edit}
use Rattle.codespan_suggestions.specs.EditedFiles.{edited_files}
use Rattle.codespan_suggestions.specs.NamedFiles.{IsNameOf, AreNamedFiles}

module _ {Id : Type 0} (database : FileDatabase Id) (part : Id × List ℕ → List ℕ) where
  -- a text has a part for each of some files, with a name of it
  pub record HasParts (ids : List Id) (text : List ℕ) : Type 0 where
    pub named : List (Id × List ℕ)
    pub files : map (λ (x : Id × List ℕ). x.0) named ≡ ids
    pub names : AllByRecursion (λ (x : Id × List ℕ). IsNameOf database x.0 x.1) named
    pub text_is : text ≡ flat_map part named

  -- the empty text has none
  pub no-part : (text : List ℕ) → text ≡ [] → HasParts [] text
  no-part text empty = record { named = []; files = refl; names = tt; text_is = empty }

  -- what holds of files and of one more holds of all of them
  all-more : (P : Id × List ℕ → Type 0) (xs : List (Id × List ℕ)) (y : Id × List ℕ)
      → AllByRecursion P xs → P y → AllByRecursion P (xs ++ y ∷ [])
  all-more P [] y all one = (one, tt)
  all-more P (x ∷ xs) y all one = (all.0, all-more P xs y all.1 one)

  -- one more part is appended
  pub part-more : (items : List Id) (i : ℕ) (x : Id) (name text new : List ℕ)
      → i < length items → x ≡ get_or items i x → IsNameOf database x name
      → new ≡ text ++ part (x, name) → HasParts (take i items) text
      → HasParts (take (i + 1) items) new
  part-more items i x name text new inside is named made parts = record {
    named = parts.named ++ (x, name) ∷ [];
    files =
        map-append (λ (y : Id × List ℕ). y.0) parts.named ((x, name) ∷ [])
        ∙ ap₂ (λ (ys zs : List Id). ys ++ zs) parts.files
        (ap (λ (y : Id). y ∷ []) is)
        ∙ sym (take_more items i x inside);
    names =
        all-more (λ (y : Id × List ℕ). IsNameOf database y.0 y.1) parts.named (x, name)
        parts.names named;
    text_is =
        made
        ∙ ap₂ (λ (s t : List ℕ). s ++ t) parts.text_is (sym (append-nil (part (x, name))))
        ∙ sym (flat_map-append part parts.named ((x, name) ∷ []));
  }

  -- all parts are there
  pub parts-end : (edits : List (Edit Id)) (items : List Id) (i : ℕ) (text : List ℕ)
      → items ≡ edited_files database.same edits → length items ≤ i
      → HasParts (take i items) text
      → (named : List (Id × List ℕ)) × AreNamedFiles database edits named
      × (text ≡ flat_map part named)
  parts-end edits items i text is past parts = (
    parts.named,
    record {
      files = parts.files ∙ take_all i items past ∙ is;
      names =
          All-from_recursion (λ (y : Id × List ℕ). IsNameOf database y.0 y.1) parts.named
          parts.names;
    },
    parts.text_is,
  )
