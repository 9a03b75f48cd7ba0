-- The files of ids, and the indices and lanes of labels, one label after another, for the clause
-- `collected` of `collect`.
use Rattle.codespan_core.proofs.Std.{common_steps, ◌≡◌, ℕ, ◌+◌, ◌<◌, ◌≤◌}
use Rattle.codespan_core.proofs.Std.{Bool, true, false, List, [], ◌∷◌, ◌++◌, length}
use Rattle.codespan_core.proofs.Std.{get_or, set, map, refl, sym, arith, true≢false}
use Rattle.codespan_core.proofs.Std.{if◌then◌else◌, IsEquivalence, AllByRecursion, append-nil}
use Rattle.codespan_core.proofs.Std.{append_assoc, length-append, length-map, map-append}
use Rattle.codespan_core.proofs.Std.{filter-append, count_by-le-length}
use Rattle.std.proofs.lemmas.List.Sums.{length-filter}
use Rattle.codespan_core.specs.FileModel.{FileDatabase, FileModel, line_count}
use Rattle.codespan_core.specs.LawfulFiles.{IsLawful}
use Rattle.codespan_core.specs.Labels.{LabelModel, is_single}
use Rattle.codespan_output.specs.Types.{Config}
use Rattle.codespan_output.specs.Snippets.{LabelInFile}
use Rattle.codespan_views.specs.Private.{num_multi_labels_of, with_labels, file_least_starts}
use Rattle.codespan_views.specs.Private.{least_starts_with, no_starts, index_of_file}
use Rattle.codespan_views.specs.Private.{annotations_of_next, annotations_after, AreDistinct}
use Rattle.codespan_output.proofs.Utf8.ListElements.{filter-nothing}
use Rattle.codespan_views.proofs.Files.Indices.{has}
use Rattle.codespan_views.proofs.Labels.LocusBytes.{start-others, start-own, start-unknown}

-- the file database is lawful: sameness of ids is an equivalence, the same ids name one file, and
-- each file has a line
pub record AreFiles {Id : Type 0} (database : FileDatabase Id) : Type 0 where
  pub equivalence : IsEquivalence database.same
  pub one_file : (i j : Id) → database.same i j ≡ true → database.file i ≡ database.file j
  pub has_line : (i : Id) → 0 < line_count (database.file i)
  pub lawful : (i : Id) → IsLawful (database.file i)

-- a lawful database, whose equality of ids is this one, has such files
pub are-files : {Id : Type 0} {database : FileDatabase Id} {same : Id → Id → Bool}
    → database.same ≡ same → IsEquivalence same
    → ((i j : Id) → database.same i j ≡ true
    → (database.file i ≡ database.file j) × (database.failure i ≡ database.failure j))
    → ((id : Id) → IsLawful (database.file id)) → AreFiles database
are-files is equivalence same_file lawful = grind (arith, common_steps)

-- how many lanes a label takes: one, where it is a multi-line label
abbrev pub label_lanes : FileModel → LabelModel → ℕ
label_lanes f x = if is_single f x then 0 else 1

module _ {Id A : Type 0} {same : Id → Id → Bool} (o : IsEquivalence same) {i : Id}
    {h more : Id → A}
    (others : (j : Id) → same j i ≡ false → more j ≡ h j) where
  -- where what is kept for an id changes, it stays for ids that differ from one that is the same
  others-stay : (j : Id) → same j i ≡ true → (ks : List Id)
      → AllByRecursion (λ k. same j k ≡ false) ks → map more ks ≡ map h ks
  others-stay j t [] apart = refl
  others-stay j t (k ∷ ks) apart = grind (arith, common_steps, others-stay j t ks)

  -- so only what is kept at the id's index changes
  pub set-at : (ids : List Id) (d : Id) (v : A) → AreDistinct same ids
      → has same o ids i ≡ true
      → v ≡ more (get_or ids (index_of_file same ids i) d)
      → set (map h ids) (index_of_file same ids i) v ≡ map more ids
  set-at [] d v differ there is = absurd (true≢false (sym there))
  set-at (j ∷ js) d v differ there is = grind (arith, common_steps, others-stay, set-at js d v)

-- equal ids have as many lanes
pub num_multi_labels_of-equal : {Id : Type 0} {database : FileDatabase Id}
    (lawful : AreFiles database) (before : List (LabelInFile Id)) (i j : Id)
    → database.same i j ≡ true
    → num_multi_labels_of database.same database.file before i
    ≡ num_multi_labels_of database.same
    database.file before j
num_multi_labels_of-equal {Id} lawful before i j t = grind (arith, common_steps)

module _ {Id : Type 0} (same : Id → Id → Bool) (file : Id → FileModel) where
  -- labels of other files have no lane in a file
  num_multi_labels_of-none : (xs : List (LabelInFile Id)) (id : Id)
      → AllByRecursion (λ (x : LabelInFile Id). same id x.file_id ≡ false) xs
      → num_multi_labels_of same file xs id ≡ 0
  num_multi_labels_of-none xs id none = grind (arith, common_steps, filter-nothing)

  -- a file has a lane for each label at most
  pub lanes-within : (id : Id) (xs : List (LabelInFile Id))
      → num_multi_labels_of same file xs id ≤ length xs
  lanes-within id xs = grind (arith, common_steps, length-filter, count_by-le-length, length-map)

  -- the lanes with one more label
  pub num_multi_labels_of-more : (before : List (LabelInFile Id)) (x : LabelInFile Id) (id : Id)
      → num_multi_labels_of same file (before ++ x ∷ []) id
      ≡ num_multi_labels_of same file before
      id + (if same id x.file_id then label_lanes (file id) x.label else 0)
  num_multi_labels_of-more before x id = grind
      (arith, common_steps, filter-append, map-append, length-append, append-nil)

  -- where no label is of the file
  pub labels-none : (xs : List (LabelInFile Id)) (id : Id)
      → AllByRecursion (λ (x : LabelInFile Id). same id x.file_id ≡ false) xs
      → with_labels same file xs id ≡ (id, no_starts, 0)
  labels-none xs id none = grind (arith, common_steps, start-unknown, num_multi_labels_of-none)

  -- with one more label of another file
  pub labels-others : (xs : List (LabelInFile Id)) (x : LabelInFile Id) (id : Id)
      → same id x.file_id ≡ false → with_labels same file (xs ++ x ∷ []) id
      ≡ with_labels same file xs id
  labels-others xs x id apart = grind (arith, common_steps, start-others, num_multi_labels_of-more)

  -- with one more of the file
  pub labels-own : (xs : List (LabelInFile Id)) (x : LabelInFile Id) (id : Id)
      → same id x.file_id ≡ true
      → with_labels same file (xs ++ x ∷ []) id
      ≡ (
        id,
        least_starts_with (file_least_starts same xs id) x.label,
        num_multi_labels_of same file xs id + label_lanes (file id) x.label,
      )
  labels-own xs x id own = grind (arith, common_steps, start-own, num_multi_labels_of-more)

  -- the annotations of the labels, with one more
  pub annotations_after-more : (config : Config) (ids : List Id) (before xs : List (LabelInFile Id))
      (x : LabelInFile Id)
      → annotations_after same file config ids before (xs ++ x ∷ [])
      ≡ annotations_after same file config ids before xs
      ++ annotations_of_next same file config ids (before ++ xs) x
  annotations_after-more config ids before [] x = grind (arith, common_steps, append-nil)
  annotations_after-more config ids before (y ∷ ys) x = grind (
    arith,
    common_steps,
    append_assoc,
    annotations_after-more config ids (before ++ y ∷ []) ys x,
  )
