-- Labels whose lines are looked up, one after another.
use Rattle.std.specs.Prelude.{◌≡◌, ℕ, Bool, true, false, List, ◌++◌, flat_map, fold}
use Rattle.std.specs.Prelude.{max, Option, IfOk, Result}
use Rattle.codespan_core.specs.FileModel.{FileDatabase, FileModel}
use Rattle.codespan_core.specs.Labels.{LabelModel, first_line, last_line}
use Rattle.codespan_output.specs.Types.{Error, Config}
use Rattle.codespan_output.specs.Lookups.{Failures, looked_up_lines, first_error, is_looked_up}
use Rattle.codespan_output.specs.Lookups.{label_lookups, line_lookups, lookup_past_end}
use Rattle.codespan_output.specs.OutputStreams.{label_of}
use Rattle.codespan_output.specs.Snippets.{LabelInFile}
use Rattle.codespan_output.specs.declared.padding.PaddingWidth.{PaddingWidth}
use Rattle.codespan_views.specs.Private.Types.{RustAnnotation}
use Rattle.codespan_views.specs.declared.label_annotations.LabelCollector.{LabelCollector}
use Rattle.codespan_views.specs.Private.LabelAnnotations.{annotations_of, annotations_if_looked_up}
use Rattle.codespan_views.specs.Private.LabelAnnotations.{lookups_if_looked_up, label_digit_counts}
use Rattle.codespan_views.specs.Private.LabelAnnotations.{digit_count_if_spanned}
use Rattle.codespan_views.specs.Private.SourceFiles.{failure_in, model_of}
use Rattle.codespan_views.specs.Private.Annotations.{AppendsAnnotationsOf}

-- what the lookups of these labels fail with
abbrev pub labels_failure : {Id : Type 0} → Config → FileDatabase Id → List (LabelInFile Id)
    → Option Error
labels_failure config database xs =
    first_error database.failure (label_lookups config database xs)

-- a label with its file, what lookups fail with, the configuration, the index of its file, its own
-- index, and its lane if it is a multi-line label
pub record LabelToCollect (Id : Type 0) : Type 0 where
  pub file_id : Id
  pub file : FileModel
  pub failure : Failures Id
  pub config : Config
  pub file_index : ℕ
  pub index : ℕ
  pub lane : ℕ
  pub label : LabelModel

-- the label whose lines a collector looks up
abbrev pub label_of_collector : {F Id Name Source : Type 0} → (F → FileDatabase Id)
    → LabelCollector F Id Name Source → LabelToCollect Id
label_of_collector database_of collector = record {
  file_id = collector.file.file_id;
  file = model_of database_of collector.file;
  failure = (database_of collector.file.files.now).failure;
  config = collector.config.now;
  file_index = collector.file_index;
  index = collector.index;
  lane = collector.lane;
  label = (label_of collector.label.now).label;
}

-- the collector has the lines on which its label starts and ends
pub record HasLabelLines {F Id Name Source : Type 0} (database_of : F → FileDatabase Id)
    (collector : LabelCollector F Id Name Source) : Type 0 where
  pub first : first_line (model_of database_of collector.file) (label_of collector.label.now).label
      ≡ collector.span.first
  pub last : last_line (model_of database_of collector.file) (label_of collector.label.now).label
      ≡ collector.span.last

module _ {Id : Type 0} (x : LabelToCollect Id) where
  -- ---- one line

  -- the line is looked up for it
  abbrev pub IsLookedUp : ℕ → Type 0
  IsLookedUp l = is_looked_up x.config x.file x.label l ≡ true

  -- its annotations of a line were found, where it is looked up
  abbrev pub FindsLineAnnotations : List (RustAnnotation Id) → List (RustAnnotation Id) → ℕ
      → Type 0
  FindsLineAnnotations old new l =
      AppendsAnnotationsOf x.file old new
      (annotations_if_looked_up x.config x.file x.label x.file_index x.index x.lane l)

  -- the padding has been widened to the number of a line, where the label spans the line
  abbrev pub WidensPaddingForLine : PaddingWidth → PaddingWidth → ℕ → Type 0
  WidensPaddingForLine old new l =
      new.digit_count ≡ fold max old.digit_count (digit_count_if_spanned x.file x.label l)

  -- what the lookups of a line fail with, where it is looked up
  abbrev pub failure_if_looked_up : ℕ → Option Error
  failure_if_looked_up l =
      failure_in x.failure x.file_id (lookups_if_looked_up x.config x.file x.label l)

  -- ---- all of its lines

  -- its annotations were found
  abbrev pub FindsLabelAnnotations : List (RustAnnotation Id) → List (RustAnnotation Id)
      → Type 0
  FindsLabelAnnotations old new =
      AppendsAnnotationsOf x.file old new
      (annotations_of x.config x.file x.file_index x.index x.lane x.label)

  -- the padding has been widened to the numbers of the lines that the label spans
  abbrev pub WidensPadding : PaddingWidth → PaddingWidth → Type 0
  WidensPadding old new =
      new.digit_count ≡ fold max old.digit_count (label_digit_counts x.file x.label)

  -- what the lookups of its lines fail with
  abbrev pub lines_failure : Option Error
  lines_failure =
      failure_in x.failure x.file_id
      (flat_map line_lookups (looked_up_lines x.config x.file x.label)
      ++ lookup_past_end x.config x.file (x.failure x.file_id) x.label)

-- where the call returns `true`: the file has not ended
abbrev pub IfContinues : Result Bool Error → Type 0 → Type 0
IfContinues r P = IfOk r (λ goes_on. goes_on ≡ true → P)

-- where it returns `false`: the context lines ended with the file
abbrev pub IfEnded : Result Bool Error → Type 0 → Type 0
IfEnded r P = IfOk r (λ goes_on. goes_on ≡ false → P)
