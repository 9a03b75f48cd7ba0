-- Annotations, what a label does on a line of its file: their order, and their Rust types.
use Rattle.std.specs.Prelude.{◌≡◌, ℕ, ◌-◌, Bool, nat_lt, ◌==◌, List, [], ◌∷◌}
use Rattle.std.specs.Prelude.{◌++◌, map, Option, Some, None}
use Rattle.std.specs.List.{AllByRecursion}
use Rattle.std.specs.Ordering.{is_lt, nat_cmp, ordering_then}
use Rattle.std.specs.declared.cmp.Ordering.{Ordering}
use Rattle.codespan_core.specs.FileModel.{FileModel}
use Rattle.codespan_core.specs.LawfulFiles.{IsLineRange}
use Rattle.codespan_core.specs.Labels.{LabelModel, LaneMark, MultiLabel, Top, Left, Bottom}
use Rattle.codespan_core.specs.Labels.{from_line_start}
use Rattle.codespan_output.specs.OutputStreams.{label_of}
use Rattle.codespan_views.specs.Private.Types.{RustAnnotation}
use Rattle.codespan_views.specs.declared.annotation.MultiLabelKind.{MultiLabelKind}
use Rattle.codespan_views.specs.declared.annotation.LineInfo.{LineInfo}
use Rattle.codespan_views.specs.Private.LabeledFiles.{IsIdAt}
use Rattle.codespan_views.specs.declared.annotation.AnnotationKind.{AnnotationKind as RustKind}
use Rattle.codespan_views.specs.declared.annotation.MultiLabelKind.TheVariants as label_kind
use Rattle.codespan_views.specs.declared.annotation.AnnotationKind.TheVariants as rust

-- a label makes the line shown, or is a single-line label on it, or is a multi-line label that has
-- a lane mark on it
pub data AnnotationKind : Type 0 where
  Shown : AnnotationKind
  Single : (index : ℕ) (label : LabelModel) → AnnotationKind
  Multi : (lane_mark : LaneMark) → AnnotationKind

-- an annotation of a line; the file by its index among those of the output
pub record Annotation : Type 0 where
  pub file_index : ℕ
  pub line : ℕ
  pub kind : AnnotationKind

-- ---- the order of annotations

-- what annotations of a line are compared by: their rank, for shown comes first, then single-line
-- labels, then lane marks; the start of a single-line label, or the lane of a lane mark; the end of
-- a single-line label; and its index in the diagnostic's list
abbrev pub keys_of : AnnotationKind → ℕ × ℕ × ℕ × ℕ
keys_of Shown = (0, 0, 0, 0)
keys_of (Single index label) = (1, label.start, label.end, index)
keys_of (Multi lane_mark) = (2, lane_mark.lane, 0, 0)

abbrev pub rank_of : AnnotationKind → ℕ
rank_of kind = (keys_of kind).0

-- by kind; single-line labels by their ranges, of equal ranges the greater index first; lane marks
-- by their lanes
abbrev pub kind_cmp : AnnotationKind → AnnotationKind → Ordering
kind_cmp x y =
    ordering_then (nat_cmp (keys_of x).0 (keys_of y).0)
    (ordering_then (nat_cmp (keys_of x).1 (keys_of y).1)
    (ordering_then (nat_cmp (keys_of x).2 (keys_of y).2)
    (nat_cmp (keys_of y).3 (keys_of x).3)))

-- by file, by line, and then by kind
abbrev pub annotation_cmp : Annotation → Annotation → Ordering
annotation_cmp x y =
    ordering_then (nat_cmp x.file_index y.file_index)
    (ordering_then (nat_cmp x.line y.line) (kind_cmp x.kind y.kind))

-- one annotation is before another
abbrev pub is_before : Annotation → Annotation → Bool
is_before x y = is_lt (annotation_cmp x y)

-- ---- tests on annotations

-- the annotation makes its line shown
abbrev pub shows_line : Annotation → Bool
shows_line annotation = nat_lt (rank_of annotation.kind) 2

-- the annotation is of this line
abbrev pub is_on_line : ℕ → Annotation → Bool
is_on_line l annotation = annotation.line == l

-- the annotation is of this file
abbrev pub is_of_file : ℕ → Annotation → Bool
is_of_file file_index annotation = annotation.file_index == file_index

-- the annotation is a lane mark in this lane, on this line of this file
abbrev pub IsLaneMarkOn : ℕ → ℕ → ℕ → Annotation → Type 0
IsLaneMarkOn file_index l lane annotation =
    (annotation.file_index ≡ file_index) × (annotation.line ≡ l)
    × (keys_of annotation.kind ≡ (2, lane, 0, 0))

-- ---- the annotations of a line

-- an annotation of a line, if there is one
abbrev pub annotation_if_any : ℕ → ℕ → Option AnnotationKind → List Annotation
annotation_if_any file_index l None = []
annotation_if_any file_index l (Some kind) =
    record { file_index = file_index; line = l; kind = kind } ∷ []

-- ---- the Rust types of annotations

-- the multi-line label mark of this kind, on a line that starts at this byte index
abbrev pub multi_label_from : ℕ → LabelModel → MultiLabelKind → MultiLabel
multi_label_from start x label_kind.Top = Top (x.start - start)
multi_label_from start x label_kind.Left = Left
multi_label_from start x label_kind.Bottom = Bottom (x.end - start) x.message

-- what a label does on a line that starts at this byte index
abbrev pub kind_view : {Id : Type 0} → ℕ → RustKind Id → AnnotationKind
kind_view start rust.Shown = Shown
kind_view start (rust.Single index label) =
    Single index (from_line_start start (label_of label.now).label)
kind_view start (rust.Multi kind lane label) =
    Multi (record {
      lane = lane;
      style = label.now.style;
      multi_label = multi_label_from start (label_of label.now).label kind;
    })

-- an annotation
abbrev pub annotation_view : {Id : Type 0} → RustAnnotation Id → Annotation
annotation_view x = record
    { file_index = x.file_index; line = x.line.index; kind = kind_view x.line.start x.kind }

-- the line is one of the file's, with its number and its range
pub record IsLineOf (f : FileModel) (line : LineInfo) : Type 0 where
  pub number_is : line.number ≡ f.line_number line.index
  pub range_is : IsLineRange f line.index (record { start = line.start; end = line.end })

-- the line is that of this index in the file
abbrev pub IsLineAt : FileModel → ℕ → LineInfo → Type 0
IsLineAt f l line = (line.index ≡ l) × IsLineOf f line

-- the annotation's line is one of its file, where these are the ids of the files
abbrev pub IsOfFiles : {Id : Type 0} → (Id → FileModel) → List Id → RustAnnotation Id
    → Type 0
IsOfFiles {Id} file ids annotation = (id : Id) → IsIdAt ids annotation.file_index id
    → IsLineOf (file id) annotation.line

-- these annotations were appended, and this holds of each
pub record AppendsAnnotations {Id : Type 0} (P : RustAnnotation Id → Type 0)
    (old new : List (RustAnnotation Id)) (annotations : List Annotation) : Type 0 where
  pub more : List (RustAnnotation Id)
  pub whole : new ≡ old ++ more
  pub are : map annotation_view more ≡ annotations
  pub each : AllByRecursion P more

-- annotations of lines of this file were appended
abbrev pub AppendsAnnotationsOf : {Id : Type 0} → FileModel → List (RustAnnotation Id)
    → List (RustAnnotation Id) → List Annotation → Type 0
AppendsAnnotationsOf f old new annotations =
    AppendsAnnotations (λ annotation. IsLineOf f annotation.line) old new annotations
