-- The files of labels, one label after another, and those of the labels up to one: for the clause
-- `collected` of `collect`.
use Rattle.codespan_core.proofs.Std.{common_steps, ◌≡◌, Bool, true, false, List, []}
use Rattle.codespan_core.proofs.Std.{◌∷◌, ◌++◌, map, arith, sym, ap, ◌∙◌}
use Rattle.codespan_core.proofs.Std.{IsEquivalence, AllByRecursion, map-append, ℕ, ◌+◌, take}
use Rattle.codespan_core.proofs.Std.{take-append-drop, drop}
use Rattle.codespan_output.specs.Types.{Label}
use Rattle.codespan_output.specs.Snippets.{LabelInFile, file_ids}
use Rattle.codespan_output.specs.OutputStreams.{label_of}
use Rattle.codespan_views.specs.Private.{with_file, index_of_file}
use Rattle.codespan_views.proofs.Files.Indices.{index-final, file_ids-more, has, none-of_file}
use Rattle.codespan_views.proofs.Files.Indices.{file_ids-last}
use Rattle.codespan_views.proofs.Annotations.IndexedElements.{IsElementAt, take-at}

module _ {Id : Type 0} {same : Id → Id → Bool} (o : IsEquivalence same)
    (xs : List (LabelInFile Id))
    (x : LabelInFile Id) where
  -- the files of the labels
  abbrev were : List Id
  were = file_ids same xs

  -- those with the label's file
  abbrev are : List Id
  are = file_ids same (xs ++ x ∷ [])

  -- what is known of each file, where the label is not of it
  pub known-more : {A : Type 0} {d : A} {known now : List A} (h : Id → A)
      → (AllByRecursion (λ (y : LabelInFile Id). same x.file_id y.file_id ≡ false) xs
      → h x.file_id ≡ d)
      → known ≡ map h were → now ≡ with_file same were x.file_id known d
      → now ≡ map h are
  known-more {A} {d} {known} h new was is = grind (
    arith,
    common_steps,
    none-of_file same o xs x.file_id,
    file_ids-more same o xs x,
    map-append,
  )

-- the labels before an index
abbrev pub before : {Id : Type 0} → List (Label Id) → ℕ → List (LabelInFile Id)
before labels index = map label_of (take index labels)

module _ {Id : Type 0} {labels : List (Label Id)} {index : ℕ} {label : Label Id}
    (turn : IsElementAt labels index label) where
  -- the labels before the next index
  pub before-more : before labels (index + 1) ≡ before labels index ++ label_of label ∷ []
  before-more = grind (arith, common_steps, take-at, map-append)

  -- all labels are those up to it, and those after it
  pub labels-whole : map label_of labels ≡ (before labels index ++ label_of label ∷ [])
      ++ map label_of (drop (index + 1) labels)
  labels-whole = grind
      (arith, common_steps, take-append-drop (index + 1) labels, map-append, before-more)

  module _ {same : Id → Id → Bool} (o : IsEquivalence same) where
    -- the files of the labels up to this one
    abbrev ids : List Id
    ids = file_ids same (before labels (index + 1))

    -- the label's file is one of those
    pub has-file : has same o ids label.file_id ≡ true
    has-file =
        ap (λ xs. has same o (file_ids same xs) label.file_id) before-more
        ∙ file_ids-last same o (before labels index) (label_of label)

    -- its index among those is the one among the files of all labels
    pub index-of_all : index_of_file same (file_ids same (map label_of labels)) label.file_id
        ≡ index_of_file same ids label.file_id
    index-of_all =
        (λ i. index_of_file same (file_ids same (labels-whole i)) label.file_id)
        ∙ index-final same o (before labels index ++ label_of label ∷ []) _ label.file_id
        (file_ids-last same o (before labels index) (label_of label))
        ∙ (λ i. index_of_file same (file_ids same (sym before-more i)) label.file_id)
