-- The lines of a snippet that annotations in order make: shown lines, filled lines, and breaks. The
-- lookups and the known numbers of filled lines.
use Rattle.std.specs.List.{AllByRecursion, filter_map}
use Rattle.std.specs.Prelude.{Option, Some, None, map, slice_get, ◌≡◌}
use Rattle.std.specs.Prelude.{ℕ, Bool, true, ◌==◌, ◌&&◌, List, [], ◌∷◌, ◌++◌}
use Rattle.std.specs.Prelude.{flat_map, zero, suc, ◌-◌, IfSome, drop}
use Rattle.codespan_core.specs.FileModel.Lookup.{LineNumber}
use Rattle.codespan_core.specs.FileModel.{FileModel, Lookup, line_text}
use Rattle.codespan_core.specs.Labels.{LabelModel, LaneMark}
use Rattle.codespan_output.specs.Arguments.{ascend_from, starts_in_order}
use Rattle.codespan_output.specs.CharMetrics.{text_without_line_end}
use Rattle.codespan_output.specs.FittedLineLaws.{IsFittable}
use Rattle.codespan_output.specs.Rows.{Line, Row, BreakRow, rows_of}
use Rattle.codespan_output.specs.Sequences.{gap_between}
use Rattle.codespan_views.specs.Private.Annotations.{Annotation, AnnotationKind, Single, Multi}
use Rattle.codespan_views.specs.Private.Annotations.{shows_line}
use Rattle.codespan_views.specs.Private.SourceFiles.{lookups_of_filled}
use Rattle.codespan_output.specs.Private.LineRows.{before_line}
use Rattle.std.specs.Prelude.{if◌then◌else◌}

-- a shown line or the one line between two, with its annotations, or a break before such a line
pub data SnippetLine : Type 0 where
  Labeled : (line : ℕ) (annotations : List Annotation) → SnippetLine
  Filled : (line : ℕ) (annotations : List Annotation) → SnippetLine
  Break : (next_annotations : List Annotation) → SnippetLine

-- ---- from annotations in order to lines

-- an annotation in front of groups: it joins the first one where that is of its line
abbrev pub join_group : Annotation → List (List Annotation) → List (List Annotation)
join_group x ((y ∷ ys) ∷ gs) =
    if y.line == x.line then (x ∷ y ∷ ys) ∷ gs else (x ∷ []) ∷ (y ∷ ys) ∷ gs
join_group x gs = (x ∷ []) ∷ gs

-- the longest runs of annotations of one line
abbrev pub groups : List Annotation → List (List Annotation)
groups [] = []
groups (x ∷ xs) = join_group x (groups xs)

-- what is between two shown lines: the one line between them, with its annotations, a break,
-- with those of the line after it, or nothing
abbrev pub lines_between : List Annotation → List Annotation → ℕ → ℕ → List SnippetLine
lines_between hidden_annotations next_annotations =
    gap_between (λ l. Filled l hidden_annotations ∷ []) (λ d. Break next_annotations ∷ [])

-- the lines of groups, where `previous` is the shown line before them, and `hidden_annotations` are
-- the annotations of the line before them, where that is hidden; the first of a group, whose
-- annotations are in order, determines whether its line is shown
abbrev pub lines_from : Option ℕ → List Annotation → List (List Annotation)
    → List SnippetLine
lines_from previous hidden_annotations [] = []
lines_from previous hidden_annotations ([] ∷ gs) = lines_from previous hidden_annotations gs
lines_from previous hidden_annotations ((x ∷ xs) ∷ gs) =
    if shows_line x
    then before_line (lines_between hidden_annotations (x ∷ xs)) previous x.line
    ++ Labeled x.line (x ∷ xs) ∷ lines_from (Some x.line) [] gs
    else lines_from previous (x ∷ xs) gs

-- the lines of the annotations of one file
abbrev pub lines_of : List Annotation → List SnippetLine
lines_of annotations = lines_from None [] (groups annotations)

-- ---- the rows of lines

-- the label of an annotation, where it is a single-line label
abbrev pub single_label_of : AnnotationKind → Option LabelModel
single_label_of (Single index x) = Some x
single_label_of _ = None

-- the single-line labels
abbrev pub single_labels_in : List Annotation → List LabelModel
single_labels_in annotations = filter_map (λ (x : Annotation). single_label_of x.kind) annotations

-- the lane mark of an annotation, where it has one
abbrev pub lane_mark_of_kind : AnnotationKind → Option LaneMark
lane_mark_of_kind (Multi lane_mark) = Some lane_mark
lane_mark_of_kind _ = None

-- the lane marks
abbrev pub lane_marks_in : List Annotation → List LaneMark
lane_marks_in annotations = filter_map (λ (x : Annotation). lane_mark_of_kind x.kind) annotations

module _ (f : FileModel) (count : ℕ) where
  -- a line of the file with these annotations
  abbrev pub line_of_group : ℕ → List Annotation → Line
  line_of_group l annotations = record {
    number = f.line_number l;
    text = text_without_line_end (line_text f l);
    labels = single_labels_in annotations;
    lanes = record { count = count; lane_marks = lane_marks_in annotations };
  }

  -- the rows of a line
  abbrev pub rows_of_line : SnippetLine → List Row
  rows_of_line (Labeled l annotations) = rows_of (line_of_group l annotations)
  rows_of_line (Filled l annotations) = rows_of (line_of_group l annotations)
  rows_of_line (Break annotations) =
      BreakRow (record { count = count; lane_marks = lane_marks_in annotations }) ∷ []

  -- the rows of all
  abbrev pub rows_of_lines : List SnippetLine → List Row
  rows_of_lines snippet_lines = flat_map rows_of_line snippet_lines

-- the line, where it is no break
abbrev pub drawn_line_of : SnippetLine → List ℕ
drawn_line_of (Labeled l annotations) = l ∷ []
drawn_line_of (Filled l annotations) = l ∷ []
drawn_line_of (Break annotations) = []

-- the lines that are drawn
abbrev pub drawn_lines_of : List SnippetLine → List ℕ
drawn_lines_of snippet_lines = flat_map drawn_line_of snippet_lines

-- the line, where it is filled in
abbrev pub filled_line_of : SnippetLine → List ℕ
filled_line_of (Filled l annotations) = l ∷ []
filled_line_of _ = []

-- the lines that are filled in
abbrev pub filled_lines_of : List SnippetLine → List ℕ
filled_lines_of snippet_lines = flat_map filled_line_of snippet_lines

-- ---- labels in order

-- the lane marks of these annotations ascend in so many lanes
abbrev pub are_lane_marks_in_order : ℕ → List Annotation → Bool
are_lane_marks_in_order count annotations = ascend_from count 0 (lane_marks_in annotations)

-- and the single-line labels are in the order of their starts
abbrev pub are_annotations_in_order : ℕ → List Annotation → Bool
are_annotations_in_order count annotations =
    starts_in_order (single_labels_in annotations) && are_lane_marks_in_order count annotations

-- so are those of a line of a snippet
abbrev pub is_line_in_order : ℕ → SnippetLine → Bool
is_line_in_order count (Labeled l annotations) = are_annotations_in_order count annotations
is_line_in_order count (Filled l annotations) = are_annotations_in_order count annotations
is_line_in_order count (Break annotations) = are_lane_marks_in_order count annotations

-- so are those of each line
abbrev pub AreInOrder : ℕ → List SnippetLine → Type 0
AreInOrder count xs = AllByRecursion (λ x. is_line_in_order count x ≡ true) xs

-- the line can be fitted to a width
abbrev pub IsLineFittable : FileModel → ℕ → SnippetLine → Type 0
IsLineFittable f count (Labeled l annotations) = IsFittable (line_of_group f count l annotations)
IsLineFittable f count (Filled l annotations) = IsFittable (line_of_group f count l annotations)
IsLineFittable f count (Break annotations) = Unit {0}

-- what is before shown line `d`, which has the annotations `next`, where so many lines are between
-- it and the shown line before: the one line between, with the annotations `hidden`, or a break
abbrev pub gap_lines : List Annotation → List Annotation → ℕ → ℕ → List SnippetLine
gap_lines hidden next d zero = []
gap_lines hidden next d (suc zero) = Filled (d - 1) hidden ∷ []
gap_lines hidden next d (suc (suc n)) = Break next ∷ []

-- so many lines are between shown line `d` and `previous`, the shown line before it, if any
abbrev pub IsGapBefore : Option ℕ → ℕ → ℕ → Type 0
IsGapBefore previous d count = (hidden next : List Annotation)
    → before_line (lines_between hidden next) previous d ≡ gap_lines hidden next d count

-- after the annotations `hidden` of a hidden line, annotations make the same lines as `later` ones
-- after those of another one
abbrev pub HasSameLines : (hidden annotations later_hidden later : List Annotation) → Type 0
HasSameLines hidden annotations later_hidden later = (previous : Option ℕ)
    → lines_from previous later_hidden (groups later)
    ≡ lines_from previous hidden (groups annotations)

-- the lookups of the numbers of these lines
abbrev pub number_lookups : List ℕ → List Lookup
number_lookups ls = map LineNumber ls

-- the lookups of filled lines that are rendered, where these numbers of the first ones are known
abbrev pub lookups_with : List ℕ → List ℕ → List Lookup
lookups_with numbers [] = []
lookups_with numbers (l ∷ ls) =
    lookups_of_filled (slice_get numbers 0) l ++ lookups_with (drop 1 numbers) ls

-- the known numbers are those of the first of these lines of the file
abbrev pub AreNumbersOf : FileModel → List ℕ → List ℕ → Type 0
AreNumbersOf f numbers [] = Unit {0}
AreNumbersOf f numbers (l ∷ ls) =
    IfSome (slice_get numbers 0) (λ known. known ≡ f.line_number l)
    × AreNumbersOf f (drop 1 numbers) ls
