-- For `lanes_join_corners`: what a lane shows in the rows of one line.
use Rattle.codespan_core.proofs.Std.{◌≡◌, ℕ, Bool, List, [], ◌∷◌, ◌++◌, map}
use Rattle.codespan_core.proofs.Std.{filter, reverse, Some, None, ap, AllByRecursion}
use Rattle.codespan_core.specs.Labels.{LabelModel, LaneMark, MultiLabel, Left}
use Rattle.codespan_output.specs.Types.{Layout, LabelStyle}
use Rattle.codespan_output.specs.declared.lane_shapes.Shape.TheVariants.{Space, Bar}
use Rattle.codespan_output.specs.{Source, SingleLabels, Underline, row_shape, lane_mark_in}
use Rattle.codespan_output.specs.{shape_of, Line, Row, CaretRow, PointerRow, HangingRow}
use Rattle.codespan_output.specs.{UnderlineRow, hanging_labels, rows_of, has_underline}
use Rattle.codespan_output.proofs.Lanes.LineLemmas.{each_all, each_map, Shows}
use Rattle.codespan_output.proofs.Utf8.ListElements.{all-append, all-filter}
use Rattle.codespan_output.specs.Private.{caret_rows, pointer_and_hanging_rows, underline_rows}
use Rattle.codespan_output.specs.Private.{leading_of}

-- ---- the rows of a line

each_caret : (P : Row → Type 0) (line : Line) (labels : List LabelModel) → P (CaretRow line)
    → AllByRecursion P (caret_rows line labels)
each_caret P line [] a = tt
each_caret P line (x ∷ xs) a = (a, tt)

each_hanging : (P : Row → Type 0) (line : Line) (labels : List LabelModel) → P (PointerRow line)
    → ((y : LabelModel) → P (HangingRow line y))
    → AllByRecursion P (pointer_and_hanging_rows line labels)
each_hanging P line [] a b = tt
each_hanging P line (x ∷ xs) a b = (
  a,
  each_map P (HangingRow line) (reverse (x ∷ xs))
      (each_all (λ y. P (HangingRow line y)) (reverse (x ∷ xs)) b),
)

abbrev pub below_rows : Line → List Row
below_rows line = caret_rows line line.labels ++ pointer_and_hanging_rows line
    (hanging_labels line.labels)

pub each_below : (P : Row → Type 0) (line : Line) → P (CaretRow line) → P (PointerRow line)
    → ((y : LabelModel) → P (HangingRow line y)) → AllByRecursion P (below_rows line)
each_below P line a b d =
    all-append P (caret_rows line line.labels)
    (pointer_and_hanging_rows line (hanging_labels line.labels))
    (each_caret P line line.labels a)
    (each_hanging P line (hanging_labels line.labels) b d)

abbrev pub is_underlined : Line → LaneMark → Bool
is_underlined line m = has_underline (leading_of line) m.multi_label

pub each_under : (P : Row → Type 0) (line : Line) (lane_marks : List LaneMark)
    → AllByRecursion (λ m. P (UnderlineRow line m)) lane_marks
    → AllByRecursion P (map (UnderlineRow line) (filter (is_underlined line) lane_marks))
each_under P line lane_marks a =
    each_map P (UnderlineRow line) (filter (is_underlined line) lane_marks)
    (all-filter (λ m. P (UnderlineRow line m)) (is_underlined line) lane_marks a)

pub each_after_source : (P : Row → Type 0) (line : Line) → P (CaretRow line)
    → P (PointerRow line)
    → ((y : LabelModel) → P (HangingRow line y))
    → ((m : LaneMark) → P (UnderlineRow line m))
    → AllByRecursion P (below_rows line ++ underline_rows line)
each_after_source P line a b d e =
    all-append P (below_rows line) (underline_rows line) (each_below P line a b d)
    (each_under P line line.lanes.lane_marks
    (each_all (λ m. P (UnderlineRow line m)) line.lanes.lane_marks e))

-- ---- a line on which the label neither begins nor ends

abbrev pub lane_mark_with : ℕ → LabelStyle → MultiLabel → LaneMark
lane_mark_with lane style multi_label =
    record { lane = lane; style = style; multi_label = multi_label }

pub no_lane_mark : (layout : Layout) (lane : ℕ) (line : Line)
    → lane_mark_in line.lanes.lane_marks lane ≡ None
    → AllByRecursion (Shows layout lane Space) (rows_of line)
no_lane_mark layout lane line none = (
  ap (shape_of (row_shape layout (leading_of line) Source lane)) none,
  each_after_source (Shows layout lane Space) line
      (ap (shape_of (row_shape layout (leading_of line) SingleLabels lane)) none)
      (ap (shape_of (row_shape layout (leading_of line) SingleLabels lane)) none)
      (λ y. ap (shape_of (row_shape layout (leading_of line) SingleLabels lane)) none)
      (λ m. ap (shape_of (row_shape layout (leading_of line) (Underline m) lane)) none),
)

pub left_lane_mark : (layout : Layout) (lane : ℕ) (line : Line) (style : LabelStyle)
    → lane_mark_in line.lanes.lane_marks lane ≡ Some (lane_mark_with lane style Left)
    → AllByRecursion (Shows layout lane Bar) (rows_of line)
left_lane_mark layout lane line style is = (
  ap (shape_of (row_shape layout (leading_of line) Source lane)) is,
  each_after_source (Shows layout lane Bar) line
      (ap (shape_of (row_shape layout (leading_of line) SingleLabels lane)) is)
      (ap (shape_of (row_shape layout (leading_of line) SingleLabels lane)) is)
      (λ y. ap (shape_of (row_shape layout (leading_of line) SingleLabels lane)) is)
      (λ m. ap (shape_of (row_shape layout (leading_of line) (Underline m) lane)) is),
)
