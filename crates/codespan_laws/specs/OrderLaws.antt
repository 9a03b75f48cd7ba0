-- The law of the order of labels: which orders a rich output shows.
use Rattle.std.specs.Prelude.{◌≡◌, ℕ, Bool, true, ◌&&◌, ◌==◌, List, filter}
use Rattle.std.specs.Cmp.{IsEquivalence}
use Rattle.std.specs.Cmp.Lexicographic.{pointwise}
use Rattle.codespan_output.specs.Types.{Config, Rich, Severity}
use Rattle.codespan_base.specs.FileModel.{FileModel}
use Rattle.codespan_base.specs.Labels.{LabelModel, is_single, first_line, drawn_label}
use Rattle.codespan_base.specs.Labels.{multi_line_labels}
use Rattle.codespan_output.specs.Rows.{HeaderText, Locus}
use Rattle.codespan_output.specs.Snippets.{LabelInFile, file_ids, labeled_file_model}
use Rattle.codespan_output.specs.Snippets.{labeled_file_models}
use Rattle.codespan_output.specs.OutputStreams.{rendered, locus_bytes}

-- the label has this drawn range
abbrev pub has_drawn_range : FileModel → ℕ → ℕ → LabelModel → Bool
has_drawn_range f start end x =
    let drawn = drawn_label f x in (drawn.start == start) && (drawn.end == end)

-- the multi-line labels of a file, in the order of the list
abbrev pub multi_line_labels_of : {Id : Type 0}
    → (Id → Id → Bool) → (Id → FileModel) → List (LabelInFile Id) → Id
    → List LabelModel
multi_line_labels_of same file xs id =
    multi_line_labels (file id) (labeled_file_model same file xs id).labels

-- the single-line labels of a line that have this drawn range, in the order of the list
abbrev pub labels_of_drawn_range : {Id : Type 0}
    → (Id → Id → Bool) → (Id → FileModel) → List (LabelInFile Id) → Id → ℕ → ℕ
    → ℕ → List LabelModel
labels_of_drawn_range same file xs id l start end =
    filter (λ x. is_single (file id) x && (first_line (file id) x == l)
    && has_drawn_range (file id) start end x) (labeled_file_model same file xs id).labels

-- two lists of labels agree in each order that a rich output shows: of the files, whose ids need
-- only be equal, one by one, of each file's multi-line labels, and of the single-line labels of a
-- line with one drawn range
pub record SameOrders {Id : Type 0} (same : Id → Id → Bool) (file : Id → FileModel)
    (xs ys : List (LabelInFile Id)) : Type 0 where
  pub files : pointwise same (file_ids same xs) (file_ids same ys) ≡ true
  pub multi_line : (id : Id)
      → multi_line_labels_of same file xs id ≡ multi_line_labels_of same file ys id
  pub single_line : (id : Id) (l start end : ℕ)
      → labels_of_drawn_range same file xs id l start end
      ≡ labels_of_drawn_range same file ys id l start end

-- both orders have the same bytes of loci, and with any loci they render the same
pub record RenderSame {Id : Type 0} (same : Id → Id → Bool) (file : Id → FileModel)
    (xs ys : List (LabelInFile Id)) : Type 0 where
  pub same_locus_bytes : locus_bytes same file xs Rich ≡ locus_bytes same file ys Rich
  pub same_stream : (renderer_config view_config : Config) (severity : Severity)
      (header_text : HeaderText) (loci : List Locus) (notes : List (List ℕ))
      → rendered Rich renderer_config view_config severity header_text loci
      (labeled_file_models same file xs) notes
      ≡ rendered Rich renderer_config view_config severity header_text loci
      (labeled_file_models same file ys) notes

-- where `same` is an equivalence, and equal ids have one file, a reordering that keeps these orders
-- changes nothing in a rich output
abbrev pub ReorderingChangesNothing : {Id : Type 0} → (Id → Id → Bool) → (Id → FileModel)
    → Type 0
ReorderingChangesNothing {Id} same file = (xs ys : List (LabelInFile Id))
    → IsEquivalence same → ((i j : Id) → same i j ≡ true → file i ≡ file j)
    → SameOrders same file xs ys → RenderSame same file xs ys
