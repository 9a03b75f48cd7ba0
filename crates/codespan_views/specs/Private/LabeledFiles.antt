-- The files of an output, as the code has them.
use Rattle.std.specs.Prelude.{◌≡◌, ℕ, zero, suc, Bool, false, List, [], ◌∷◌, ◌++◌}
use Rattle.std.specs.Prelude.{map, if◌then◌else◌}
use Rattle.std.specs.List.{AllByRecursion, list_any, position_or_len}
use Rattle.codespan_core.specs.FileModel.{FileModel}
use Rattle.codespan_output.specs.Arguments.{locus_view}
use Rattle.codespan_output.specs.Rows.{Locus}
use Rattle.codespan_output.specs.Snippets.{LabelInFile, labeled_file_model}
use Rattle.codespan_views.specs.Private.Types.{RustFile, LeastStarts}
use Rattle.codespan_views.specs.Private.Loci.{file_least_starts}
use Rattle.codespan_output.specs.Private.LineRows.{num_multi_labels}

-- ---- the ids of files, each at its index

-- the id at this index
abbrev pub IsIdAt : {Id : Type 0} → List Id → ℕ → Id → Type 0
IsIdAt [] file_index id = ⊥
IsIdAt (j ∷ js) zero id = j ≡ id
IsIdAt (j ∷ js) (suc file_index) id = IsIdAt js file_index id

module _ {Id : Type 0} (same : Id → Id → Bool) where
  -- the index of an id among these, or their number if it is none of them
  abbrev pub index_of_file : List Id → Id → ℕ
  index_of_file ids id = position_or_len (λ j. same j id) ids

  -- no two of these ids are the same
  abbrev pub AreDistinct : List Id → Type 0
  AreDistinct [] = Unit {0}
  AreDistinct (j ∷ js) = AllByRecursion (λ k. same j k ≡ false) js × AreDistinct js

-- ---- all files

-- the id of each
abbrev pub ids_view : {Id : Type 0} → List (RustFile Id) → List Id
ids_view {Id} files = map (λ (f : RustFile Id). f.file_id) files

-- the locus of each
abbrev pub loci_view : {Id : Type 0} → List (RustFile Id) → List Locus
loci_view {Id} files = map (λ (f : RustFile Id). locus_view f.locus) files

-- how many lanes the file of an id has for these labels
abbrev pub num_multi_labels_of : {Id : Type 0} → (Id → Id → Bool) → (Id → FileModel)
    → List (LabelInFile Id) → Id → ℕ
num_multi_labels_of same file xs id = num_multi_labels (labeled_file_model same file xs id)

-- a file, but for its locus: its id, the least starts of its labels, and the number of its lanes
abbrev pub without_locus : {Id : Type 0} → RustFile Id → Id × LeastStarts × ℕ
without_locus f = (f.file_id, f.least_starts, f.num_multi_labels)

-- the file of an id, where it has the labels among these that name it
abbrev pub with_labels : {Id : Type 0} → (Id → Id → Bool) → (Id → FileModel)
    → List (LabelInFile Id) → Id → Id × LeastStarts × ℕ
with_labels same file xs id =
    (id, file_least_starts same xs id, num_multi_labels_of same file xs id)

-- the files are those of these ids, each with the labels among these that name it
pub record AreLabeledFiles {Id : Type 0} (same : Id → Id → Bool) (file : Id → FileModel)
    (xs : List (LabelInFile Id)) (ids : List Id) (files : List (RustFile Id)) : Type 0 where
  pub are : map without_locus files ≡ map (with_labels same file xs) ids

-- ---- one file more

-- a list with an element for each of these ids, and with `one` at its end where this id is none of
-- them
abbrev pub with_file : {Id A : Type 0} → (Id → Id → Bool) → List Id → Id → List A → A
    → List A
with_file same ids id known one = if list_any (λ j. same j id) ids then known else known
    ++ one ∷ []
