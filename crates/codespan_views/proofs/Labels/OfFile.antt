-- The labels of one range, and a file among those of a diagnostic, for the clauses of
-- `render_snippets` and `RichDiagnostic::render`.
use Rattle.codespan_core.proofs.Std.{◌≡◌, ℕ, ◌<◌, Bool, true, false, ◌==◌, List}
use Rattle.codespan_core.proofs.Std.{Option, Some, None}
use Rattle.codespan_core.specs.FileModel.{FileModel, line_count}
use Rattle.codespan_core.specs.Labels.{LabelModel}
use Rattle.codespan_output.specs.Snippets.{LabelInFile}
use Rattle.codespan_views.specs.Private.{Annotation, index_of_file, num_multi_labels_of}
use Rattle.codespan_views.specs.Private.{single_label_of}
use Rattle.codespan_output.proofs.Order.OrderSorts.{has_range}

-- ---- ranges

-- the label of the annotation has this range
abbrev pub has_label_range : ℕ → ℕ → Option LabelModel → Bool
has_label_range start end None = false
has_label_range start end (Some x) = has_range start end x

-- the annotation is of a label with this range
abbrev pub is_of_range : ℕ → ℕ → Annotation → Bool
is_of_range start end e = has_label_range start end (single_label_of e.kind)

-- ---- the labels of a file among those of a diagnostic

-- a file has its index among those of a diagnostic: its id is equal to those that have the index,
-- they name it with its lanes, and it has a line
pub record HasFileIndex {Id : Type 0} (same : Id → Id → Bool) (file : Id → FileModel)
    (ids : List Id) (f : ℕ) (id : Id) : Type 0 where
  pub index : (i : Id) → (index_of_file same ids i == f) ≡ same id i
  pub one_file : (i : Id) → same id i ≡ true → file i ≡ file id
  pub lanes : (before : List (LabelInFile Id)) (i : Id) → same id i ≡ true
      → num_multi_labels_of same file before i ≡ num_multi_labels_of same file before id
  pub has_line : 0 < line_count (file id)
