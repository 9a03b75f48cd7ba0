-- Facts on a loop that makes something of each label that passes a test, for the clauses of
-- `diagnostics`.
use Rattle.std.proofs.Common.{◌≡◌, ℕ, ◌+◌, ◌<◌, ◌≤◌, true, false, Bool, List}
use Rattle.std.proofs.Common.{[], ◌∷◌, ◌++◌, length, get_or, drop, map, Option, Some}
use Rattle.std.proofs.Common.{None, ap, ◌∙◌, refl, append_assoc, append-nil, arith}
use Rattle.std.specs.Prelude.{filter, string_bytes}
use Rattle.std.proofs.lemmas.List.{drop_all, drop_more, map_push}
use Rattle.codespan_base.specs.FileModel.{FileDatabase}
use Rattle.codespan_base.specs.declared.diagnostic.Label.{Label}
use Rattle.codespan_base.specs.declared.files.Error.{Error}
use Rattle.codespan_lsp.specs.Positions.{first_failure}
use Rattle.codespan_lsp.specs.LspDiagnostics.{related_view, related_information_for, label_range}
use Rattle.codespan_lsp.specs.declared.diagnostics.RelatedInformation.{RelatedInformation}
use Rattle.codespan_lsp.specs.declared.encoding.PositionEncoding.{PositionEncoding}
use Rattle.std.proofs.lemmas.Grind.{common_steps}

-- in a loop over a slice of all items
module _ {A : Type 0} (p : A → Bool) (items : List A) (i : ℕ) (x : A) {slice : List A}
    (same : slice ≡ items) (inside : i < length slice) (is : x ≡ get_or slice i x) where
  -- the item at i is the next one
  next : drop i items ≡ x ∷ drop (i + 1) items
  next = grind (arith, common_steps, drop_more)

  -- it passes
  pub passing-more : p x ≡ true
      → filter p (drop i items) ≡ x ∷ filter p (drop (i + 1) items)
  passing-more pass = ap (filter p) next ∙ rw pass refl

  -- or it does not
  pub passing-skip : p x ≡ false → filter p (drop i items) ≡ filter p (drop (i + 1) items)
  passing-skip fails = ap (filter p) next ∙ rw fails refl

-- what was made so far, and what is made of the items left, is still the whole
pub views-push : {A B X : Type 0} (view : B → X) (made : A → X) (xs ys : List B) (y : B) (x : A)
    (left rest : List A) (all : List X) → ys ≡ xs ++ y ∷ [] → view y ≡ made x
    → left ≡ x ∷ rest
    → map view xs ++ map made left ≡ all → map view ys ++ map made rest ≡ all
views-push view made xs ys y x left rest all ys_are same left_is was =
    grind (arith, common_steps, map_push, append_assoc)

-- no item is left
pub views-end : {A B X : Type 0} (p : A → Bool) (view : B → X) (made : A → X) (xs : List B)
    (items : List A) (i : ℕ) (all : List X)
    → length items ≤ i → map view xs ++ map made (filter p (drop i items)) ≡ all
    → map view xs ≡ all
views-end p view made xs items i all past was = grind (arith, common_steps, append-nil, drop_all)

-- the lookup for an item succeeds
pub failure-more : {A : Type 0} (failure : A → Option Error) (x : A) (left rest : List A)
    (o : Option Error)
    → o ≡ first_failure (map failure left) → left ≡ x ∷ rest → failure x ≡ None
    → o ≡ first_failure (map failure rest)
failure-more failure x left rest o was left_is none = grind (arith, common_steps)

-- or it fails
pub failure-here : {A : Type 0} (failure : A → Option Error) (x : A) (left rest : List A)
    (o : Option Error) (e : Error)
    → o ≡ first_failure (map failure left) → left ≡ x ∷ rest → failure x ≡ Some e
    → o ≡ Some e
failure-here failure x left rest o e was left_is fails = grind (arith, common_steps)

-- related information with the fields of a label
pub related-same : {FileId : Type 0} (encoding : PositionEncoding) (database : FileDatabase FileId)
    (label : Label FileId) (related : RelatedInformation FileId)
    → related.file_id ≡ label.file_id
    → related.range ≡ label_range encoding database label
    → string_bytes related.message ≡ string_bytes label.message
    → related_view related ≡ related_information_for encoding database label
related-same encoding database label related id range message = rw (id, range, message) refl
