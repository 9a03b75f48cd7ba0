-- The files that a suggestion edits, one after another, for the clause `ids` of `edited_files`.
use Rattle.codespan_core.proofs.Std.{◌≡◌, ◌++◌, ◌&&◌, Bool, true, false, not, List}
use Rattle.codespan_core.proofs.Std.{[], ◌∷◌, filter, list_any, IsEquivalence, refl, sym}
use Rattle.codespan_core.proofs.Std.{◌∙◌, ap, arith, common_steps, list_any-append, ℕ}
use Rattle.codespan_core.proofs.Std.{◌+◌, ◌<◌, map, drop, length, get_or, drop_more}
use Rattle.codespan_core.specs.Labels.{first_seen}
use Rattle.codespan_edits.specs.declared.edit.Edit.{Edit}

-- what passes two filters is what passes one
filter-both : {X : Type 0} (p q r : X → Bool) (xs : List X) → ((x : X) → (p x && q x) ≡ r x)
    → filter p (filter q xs) ≡ filter r xs
filter-both p q r [] both = refl
filter-both p q r (x ∷ xs) both =
    let now = both x in
    grind (arith, common_steps, filter-both p q r xs both, now)

module _ {Id : Type 0} (same : Id → Id → Bool) where
  -- whether one of these ids is equal to this one
  abbrev pub has : List Id → Id → Bool
  has ids i = list_any (λ (j : Id). same j i) ids

  -- the others, among more ids
  abbrev pub others : List Id → List Id → List Id
  others ids more = filter (λ i. not (has ids i)) (first_seen same more)

  -- no id is seen yet
  pub others-start : (more : List Id) → [] ++ others [] more ≡ first_seen same more
  others-start more = all (first_seen same more)
    where
      all : (xs : List Id) → filter (λ i. not (has [] i)) xs ≡ xs
      all [] = refl
      all (x ∷ xs) = ap (λ (ys : List Id). x ∷ ys) (all xs)

  -- ids that are equal are among the same ones
  has-same : IsEquivalence same → (ids : List Id) (x y : Id) → same x y ≡ true
      → has ids x ≡ has ids y
  has-same o [] x y t = refl
  has-same o (j ∷ js) x y t =
      let first : same j x ≡ same j y = o.symm j x ∙ (o.congr x y j t ∙ o.symm y j) in
      grind (arith, common_steps, has-same o js x y t, first)

  -- the next id is among them
  pub others-skip : IsEquivalence same → (ids : List Id) (x : Id) (more : List Id)
      → has ids x ≡ true → others ids (x ∷ more) ≡ others ids more
  others-skip o ids x more t =
      grind (
        arith,
        common_steps,
        filter-both (λ i. not (has ids i)) (λ i. not (same x i))
            (λ i. not (has ids i)) (first_seen same more) left,
      )
    where
      left : (y : Id) → (not (has ids y) && not (same x y)) ≡ not (has ids y)
      left y = grind (arith, common_steps, has-same o ids x y)

  -- or it is not
  pub others-push : (ids : List Id) (x : Id) (more : List Id) → has ids x ≡ false
      → ids ++ others ids (x ∷ more) ≡ (ids ++ x ∷ []) ++ others (ids ++ x ∷ []) more
  others-push ids x more f =
      grind (
        arith,
        common_steps,
        filter-both (λ i. not (has ids i)) (λ i. not (same x i))
            (λ i. not (has (ids ++ x ∷ []) i)) (first_seen same more) left,
      )
    where
      left : (y : Id) → (not (has ids y) && not (same x y)) ≡ not (has (ids ++ x ∷ []) y)
      left y = grind (arith, common_steps, list_any-append (λ (j : Id). same j y) ids (x ∷ []))

  -- the next edit's file is among these
  pub files-skip : IsEquivalence same → (edits : List (Edit Id)) (i : ℕ) (x : Edit Id)
      (ids : List Id) → i < length edits → x ≡ get_or edits i x → has ids x.file_id ≡ true
      → others ids (map (λ (e : Edit Id). e.file_id) (drop i edits))
      ≡ others ids (map (λ (e : Edit Id). e.file_id) (drop (i + 1) edits))
  files-skip o edits i x ids inside is t =
      ap (λ (es : List (Edit Id)). others ids (map (λ (e : Edit Id). e.file_id) es))
      (drop_more edits i x inside ∙ ap (λ (y : Edit Id). y ∷ drop (i + 1) edits) (sym is))
      ∙ others-skip o ids x.file_id (map (λ (e : Edit Id). e.file_id) (drop (i + 1) edits)) t

  -- or it is not
  pub files-push : (edits : List (Edit Id)) (i : ℕ) (x : Edit Id) (ids : List Id)
      → i < length edits → x ≡ get_or edits i x → has ids x.file_id ≡ false
      → ids ++ others ids (map (λ (e : Edit Id). e.file_id) (drop i edits))
      ≡ (ids ++ x.file_id ∷ []) ++ others (ids ++ x.file_id ∷ [])
      (map (λ (e : Edit Id). e.file_id) (drop (i + 1) edits))
  files-push edits i x ids inside is f =
      ap (λ (es : List (Edit Id)). ids ++ others ids (map (λ (e : Edit Id). e.file_id) es))
      (drop_more edits i x inside ∙ ap (λ (y : Edit Id). y ∷ drop (i + 1) edits) (sym is))
      ∙ others-push ids x.file_id (map (λ (e : Edit Id). e.file_id) (drop (i + 1) edits)) f
