-- Each file of a suggestion comes once, for the clause of `files_come_once`.
use Rattle.codespan_core.proofs.Std.{◌≡◌, ◌||◌, Bool, true, false, not, List, []}
use Rattle.codespan_core.proofs.Std.{◌∷◌, filter, map, refl, ◌∙◌, arith, common_steps}
use Rattle.codespan_core.proofs.Std.{list_any, AllByRecursion, IsEquivalence, cond_both}
use Rattle.std.specs.List.{IsDistinct}
use Rattle.codespan_core.specs.Labels.{first_seen}
use Rattle.codespan_edits.specs.declared.edit.Edit.{Edit}
use Rattle.codespan_suggestions.specs.EditedFiles.{edited_files}
use Rattle.codespan_suggestions.specs.SuggestionLaws.{FilesComeOnce}
use Rattle.codespan_suggestions.proofs.FileLemmas.{has}

-- what holds of all items holds of those that pass
pub all-filter : {X : Type 0} (P : X → Type 0) (p : X → Bool) (xs : List X)
    → AllByRecursion P xs → AllByRecursion P (filter p xs)
all-filter P p [] h = tt
all-filter P p (x ∷ xs) h =
    cond_both (p x) (x ∷ filter p xs) (filter p xs) (AllByRecursion P)
    (λ _. (h.0, all-filter P p xs h.1)) (λ _. all-filter P p xs h.1)

module _ {Id : Type 0} (same : Id → Id → Bool) (o : IsEquivalence same) where
  -- those that pass differ as all do
  distinct-filter : (p : Id → Bool) (xs : List Id) → IsDistinct same xs
      → IsDistinct same (filter p xs)
  unfolding IsDistinct
  distinct-filter p [] h = h
  distinct-filter p (x ∷ xs) h =
      cond_both (p x) (x ∷ filter p xs) (filter p xs) (IsDistinct same)
      (λ _. (all-filter (λ y. same x y ≡ false) p xs h.0, distinct-filter p xs h.1))
      (λ _. distinct-filter p xs h.1)

  -- those that are not equal to one differ from it
  others-differ : (x : Id) (xs : List Id)
      → AllByRecursion (λ y. same x y ≡ false) (filter (λ y. not (same x y)) xs)
  others-differ x [] = tt
  others-differ x (y ∷ ys) =
      let left = filter (λ z. not (same x z)) ys in
      cond_both (not (same x y)) (y ∷ left) left (AllByRecursion (λ z. same x z ≡ false))
      (λ passes. (grind (arith, common_steps, passes), others-differ x ys))
      (λ _. others-differ x ys)

  -- ids in the order of their first appearance differ
  distinct : (ids : List Id) → IsDistinct same (first_seen same ids)
  unfolding IsDistinct
  distinct [] = tt
  distinct (x ∷ xs) = (
    others-differ x (first_seen same xs),
    distinct-filter (λ y. not (same x y)) (first_seen same xs) (distinct xs),
  )

  -- an id is among some exactly if it is among those that pass, where no other one is equal to it
  has-filter : (p : Id → Bool) (i : Id) → ((j : Id) → p j ≡ false → same j i ≡ false)
      → (ids : List Id) → has same (filter p ids) i ≡ has same ids i
  has-filter p i differ [] = refl
  has-filter p i differ (j ∷ js) =
      let here = differ j in
      grind (arith, common_steps, has-filter p i differ js, here)

  -- among the ids in the order of their first appearance are all
  each : (edits : List (Edit Id)) (i : Id)
      → has same (edited_files same edits) i
      ≡ list_any (λ (edit : Edit Id). same edit.file_id i) edits
  each [] i = refl
  each (e ∷ es) i = by (same e.file_id i) refl (each es i)
    where
      by : (b : Bool) → same e.file_id i ≡ b
          → has same (edited_files same es) i
          ≡ list_any (λ (edit : Edit Id). same edit.file_id i) es
          → (b || has same (filter (λ y. not (same e.file_id y)) (edited_files same es)) i)
          ≡ (b || list_any (λ (edit : Edit Id). same edit.file_id i) es)
      by true t rest = refl
      by false f rest =
          has-filter (λ y. not (same e.file_id y)) i apart (edited_files same es) ∙ rest
        where
          apart : (j : Id) → not (same e.file_id j) ≡ false → same j i ≡ false
          apart j h = grind (arith, common_steps, h, o.congr e.file_id j i)

pub files-once : {Id : Type 0} → FilesComeOnce Id
files-once {Id} same o edits = record {
  once = distinct same o (map (λ (edit : Edit Id). edit.file_id) edits);
  each = each same o edits;
}
