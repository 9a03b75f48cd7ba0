-- The annotations of a line of a label, which are added one after another, by the lines on which
-- the label starts and ends: for the clauses `added`, `padding` and `succeeded` of `push_line` and
-- `collect_line`.
use Rattle.codespan_core.proofs.Std.{common_steps, ◌≡◌, ℕ, List, [], ◌++◌, Option, Some}
use Rattle.codespan_core.proofs.Std.{None, arith, Bor, append-nil, append_assoc, map-append}
use Rattle.codespan_core.proofs.Std.{nat_tests}
use Rattle.codespan_core.specs.Labels.{LabelModel, first_line, last_line}
use Rattle.codespan_output.specs.Types.{Config, Label}
use Rattle.codespan_output.specs.OutputStreams.{label_of}
use Rattle.codespan_views.specs.Private.{RustAnnotation, LabelToCollect, Annotation, AnnotationKind}
use Rattle.codespan_views.specs.Private.{annotation_if_any, line_annotations, multi_kind_by_ends}
use Rattle.codespan_views.specs.Private.{kind_by_ends, AppendsAnnotations, IsLineOf, kind_view}
use Rattle.codespan_views.specs.Private.{IsFarInside}
use Rattle.codespan_views.specs.declared.annotation.LineInfo.{LineInfo}
use Rattle.codespan_output.proofs.Utf8.ListElements.{all-append, all-weaker}
use Rattle.codespan_views.specs.declared.annotation.AnnotationKind.TheVariants as rust
use Rattle.codespan_views.specs.declared.annotation.MultiLabelKind.TheVariants as label_kind

module _ {Id : Type 0} {P : RustAnnotation Id → Type 0} where
  -- nothing was added
  pub AppendsAnnotations-none : {xs : List (RustAnnotation Id)} → AppendsAnnotations P xs xs []
  AppendsAnnotations-none = grind (arith, common_steps, append-nil)

  -- some annotations were added, and then others
  pub AppendsAnnotations-both : {xs ys zs : List (RustAnnotation Id)} {es fs : List Annotation}
      → AppendsAnnotations P xs ys es
      → AppendsAnnotations P ys zs fs → AppendsAnnotations P xs zs (es ++ fs)
  AppendsAnnotations-both {xs} {es = es} a b = grind
      (arith, common_steps, append_assoc, map-append, all-append)

  -- the same annotations in other words
  pub AppendsAnnotations-as : {xs ys : List (RustAnnotation Id)} {es fs : List Annotation}
      → fs ≡ es
      → AppendsAnnotations P xs ys es → AppendsAnnotations P xs ys fs
  AppendsAnnotations-as same a = grind (arith, common_steps)

-- what holds of what was added is weaker
pub AppendsAnnotations-weaker : {Id : Type 0} {P Q : RustAnnotation Id → Type 0}
    {xs ys : List (RustAnnotation Id)} {es : List Annotation}
    → ((e : RustAnnotation Id) → P e → Q e) → AppendsAnnotations P xs ys es
    → AppendsAnnotations Q xs ys es
AppendsAnnotations-weaker {P = P} {Q = Q} weaker a = grind (arith, common_steps, all-weaker)

module _ {Id : Type 0} (x : LabelToCollect Id) where
  -- the annotations of a label on a line, and its multi-line label mark on it
  pub annotation_if_any-line : {line : LineInfo} {first last : ℕ}
      {kind lane_mark : Option AnnotationKind}
      → first_line x.file x.label ≡ first → last_line x.file x.label ≡ last
      → IsLineOf x.file line
      → kind ≡ kind_by_ends x.config x.index first last line.index line.start x.label
      → lane_mark ≡ multi_kind_by_ends x.lane first last line.index line.start x.label
      → line_annotations x.config x.file x.file_index x.index x.lane x.label line.index
      ≡ annotation_if_any
      x.file_index line.index kind ++ annotation_if_any x.file_index line.index lane_mark
  annotation_if_any-line {line} is_first is_last is kind_is multi_is = grind (arith, common_steps)

-- a label does not make a line shown that is far from its ends
pub far-kind : (config : Config) (index s e l start : ℕ) (x : LabelModel)
    → IsFarInside config s e l → None ≡ kind_by_ends config index s e l start x
far-kind config index s e l start x far = grind (arith, nat_tests)

-- its lane mark on such a line
pub far-multi_label : {Id : Type 0} (config : Config) (lane s e l start : ℕ)
    (label : Bor (Label Id))
    → IsFarInside config s e l
    → Some (kind_view start (rust.Multi label_kind.Left lane label))
    ≡ multi_kind_by_ends lane s e l
    start (label_of label.now).label
far-multi_label config lane s e l start label far = grind (arith, nat_tests)
