-- The files of an output, by their indices, for the clauses of `render_snippets` and
-- `find_numbers`.
use Rattle.codespan_core.proofs.Std.{◌≡◌, ℕ, zero, suc, ◌+◌, ◌<◌, ◌≤◌, Bool}
use Rattle.codespan_core.proofs.Std.{◌||◌, List, [], ◌∷◌, length, drop, get_or, refl, sym}
use Rattle.codespan_core.proofs.Std.{ap, map, ◌∙◌, lt-ltb, arith, nat_lt, common_steps}
use Rattle.codespan_core.proofs.Std.{get_or-map, length-drop, length-map, map-id, nat_tests, true}
use Rattle.codespan_core.proofs.Std.{false}
use Rattle.std.proofs.lemmas.List.Sums.{fails_before_first, passes_at_first}
use Rattle.std.proofs.lemmas.Simd.{map-map}
use Rattle.codespan_core.specs.FileModel.{FileModel}
use Rattle.codespan_output.specs.Arguments.{locus_view}
use Rattle.codespan_output.specs.Snippets.{LabelInFile}
use Rattle.codespan_views.specs.Private.{LeastStarts, RustFile, AreLabeledFiles, ids_view}
use Rattle.codespan_views.specs.Private.{loci_view, with_labels, without_locus, IsIdAt}
use Rattle.codespan_views.specs.Private.{index_of_file}
use Rattle.codespan_views.proofs.Files.Indices.{at-get}
use Rattle.codespan_views.proofs.Annotations.IndexedElements.{IsElementAt}
use Rattle.codespan_output.specs.Private.LineRows.{has_any}

-- no element from the end on
pub drop-end : {X : Type 0} (xs : List X) (k : ℕ) → length xs ≤ k → drop k xs ≡ []
drop-end [] zero past = refl
drop-end [] (suc k) past = refl
drop-end (x ∷ xs) zero past = absurd (omega arith)
drop-end (x ∷ xs) (suc k) past = drop-end xs k (omega arith)

-- ---- what follows a snippet

-- a snippet is followed by another one, or by notes
followed-is : {X : Type 0} (has_notes : Bool) (ys : List X)
    → (has_any ys || has_notes) ≡ (has_notes || nat_lt 0 (length ys))
followed-is has_notes ys = grind (arith, common_steps, lt-ltb)

-- something follows where there are notes or another file
pub followed-at : {X : Type 0} (b : Bool) (xs : List X) (k : ℕ)
    → (has_any (drop (k + 1) xs) || b) ≡ (b || nat_lt (k + 1) (length xs))
followed-at has_notes xs k = grind (arith, common_steps, nat_tests, followed-is, length-drop)

-- ---- the file at an index

-- there are as many ids as files
pub ids-count : {Id : Type 0} (files : List (RustFile Id))
    → length (ids_view files) ≡ length files
ids-count {Id} files = length-map files (λ (f : RustFile Id). f.file_id)

-- files with the labels of these ids have these ids
pub ids-of_labels : {Id : Type 0} {same : Id → Id → Bool} {file : Id → FileModel}
    {xs : List (LabelInFile Id)} {files : List (RustFile Id)} {ids : List Id}
    → AreLabeledFiles same file xs ids files → ids_view files ≡ ids
ids-of_labels {Id} {same} {file} {xs} {files} {ids} labeled =
    let name : Id × LeastStarts × ℕ → Id = λ t. t.0 in
    sym (map-map name without_locus files) ∙ ap (map name) labeled.are
    ∙ map-map name (with_labels same file xs) ids ∙ map-id ids

module _ {Id : Type 0} {files : List (RustFile Id)} {k : ℕ} {f : RustFile Id}
    (at : IsElementAt files k f) where
  -- its id and its locus are at the same index
  pub id-inside : k < length (ids_view files)
  id-inside = grind (arith, common_steps, length-map)

  pub id-at : f.file_id ≡ get_or (ids_view files) k f.file_id
  id-at = grind (arith, common_steps, get_or-map)

  pub is-id : IsIdAt (ids_view files) k f.file_id
  is-id = grind (arith, common_steps, id-at, at-get, id-inside)

  -- ---- an id that is looked for, and is at no index below this one

  module _ (same : Id → Id → Bool) (id : Id)
      (past : k ≤ index_of_file same (ids_view files) id)
    where
      -- it is not at the index of another one
      pub index-later : same f.file_id id ≡ false
          → k + 1 ≤ index_of_file same (ids_view files) id
      index-later apart =
          let not_here : k ≡ index_of_file same (ids_view files) id → ⊥ =
          λ e. grind (
            arith,
            common_steps,
            passes_at_first (λ j. same j id) (ids_view files) f.file_id,
            id-at,
            id-inside,
          ) in
          omega arith

      -- it is at the index of one that is the same
      pub index-first : same f.file_id id ≡ true → k ≡ index_of_file same (ids_view files) id
      index-first is = grind (
        arith,
        common_steps,
        id-at,
        fails_before_first (λ j. same j id) (ids_view files) k f.file_id,
      )

  -- it has the labels of its id, where each file has those of the one of these ids
  pub labels-at : {same : Id → Id → Bool} {file : Id → FileModel} {xs : List (LabelInFile Id)}
      {ids : List Id} → AreLabeledFiles same file xs ids files
      → without_locus f ≡ with_labels same file xs f.file_id
  labels-at {same} {file} {xs} {ids} labeled =
      let long : length files ≡ length ids =
      omega (
        arith,
        length-map files without_locus,
        ap length labeled.are,
        length-map ids (with_labels same file xs),
      ) in
      let there : without_locus f ≡ with_labels same file xs (get_or ids k f.file_id) =
      ap without_locus at.is ∙ sym
      (get_or-map without_locus files k f (without_locus f) at.inside)
      ∙ ap (λ all. get_or all k (without_locus f)) labeled.are
      ∙ get_or-map (with_labels same file xs) ids k f.file_id (without_locus f)
      (omega (arith, at.inside, long)) in
      there ∙ ap (with_labels same file xs) (sym (ap (λ t. t.0) there))

  pub locus-inside : k < length (loci_view files)
  locus-inside =
      omega (arith, at.inside, length-map files (λ (g : RustFile Id). locus_view g.locus))

  pub locus-at : locus_view f.locus ≡ get_or (loci_view files) k (locus_view f.locus)
  locus-at = grind (arith, common_steps, get_or-map)
