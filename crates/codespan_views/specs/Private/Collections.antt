-- What was collected of the labels of a diagnostic, by their indices and their lanes: their files,
-- their annotations, and the padding width of the lines that they span.
use Rattle.std.specs.Prelude.{ℕ, Bool, List, [], ◌∷◌, ◌++◌, length, flat_map, map}
use Rattle.std.specs.List.{AllByRecursion}
use Rattle.std.specs.List.Sorted.{IsPermutation, IsSortedBy}
use Rattle.codespan_core.specs.FileModel.{FileDatabase, FileModel}
use Rattle.codespan_output.specs.Types.{Config}
use Rattle.codespan_output.specs.Snippets.{LabelInFile, file_ids, labeled_file_model}
use Rattle.codespan_views.specs.Private.Types.{Collected}
use Rattle.codespan_views.specs.Private.Annotations.{Annotation, IsOfFiles, annotation_view}
use Rattle.codespan_views.specs.Private.Annotations.{is_before}
use Rattle.codespan_views.specs.Private.LabelAnnotations.{annotations_of, label_digit_counts}
use Rattle.codespan_views.specs.Private.LabeledFiles.{AreLabeledFiles, ids_view, index_of_file}
use Rattle.codespan_output.specs.Private.LineRows.{num_multi_labels}

module _ {Id : Type 0} (same : Id → Id → Bool) (file : Id → FileModel) where
  -- the annotations of a label that comes after these, where the files have these ids
  abbrev pub annotations_of_next : Config → List Id → List (LabelInFile Id) → LabelInFile Id
      → List Annotation
  annotations_of_next config ids before x =
      annotations_of config (file x.file_id) (index_of_file same ids x.file_id) (length before)
      (num_multi_labels (labeled_file_model same file before x.file_id)) x.label

  -- the annotations of these labels, after those before them
  abbrev pub annotations_after : Config → List Id → List (LabelInFile Id)
      → List (LabelInFile Id)
      → List Annotation
  annotations_after config ids before [] = []
  annotations_after config ids before (x ∷ xs) =
      annotations_of_next config ids before x
      ++ annotations_after config ids (before ++ x ∷ []) xs

  -- the annotations of all labels of a diagnostic
  abbrev pub all_annotations : Config → List (LabelInFile Id) → List Annotation
  all_annotations config xs = annotations_after config (file_ids same xs) [] xs

-- the digit counts of the numbers of the lines that labels span
abbrev pub all_digit_counts : {Id : Type 0} → (Id → FileModel) → List (LabelInFile Id)
    → List ℕ
all_digit_counts {Id} file xs =
    flat_map (λ (x : LabelInFile Id). label_digit_counts (file x.file_id) x.label) xs

module _ {Id : Type 0} (database : FileDatabase Id) where
  -- this was collected of these labels, and is in order
  pub record IsCollected (config : Config) (xs : List (LabelInFile Id)) (collected : Collected Id)
      : Type 0 where
    pub files : AreLabeledFiles database.same database.file xs (file_ids database.same xs)
        collected.files.items
    pub sorted : IsSortedBy is_before (map annotation_view collected.annotations.items)
    pub permutation : IsPermutation (all_annotations database.same database.file config xs)
        (map annotation_view collected.annotations.items)
    pub lines : AllByRecursion (IsOfFiles database.file (ids_view collected.files.items))
        collected.annotations.items
