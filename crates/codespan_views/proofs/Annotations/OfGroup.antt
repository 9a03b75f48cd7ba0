-- The annotations of a line, for the rows that are made of them and so for the clauses of
-- `render_snippets` and `RichDiagnostic::render`.
use Rattle.codespan_core.proofs.Std.{common_steps, ◌≡◌, ℕ, false, ◌==◌, List, []}
use Rattle.codespan_core.proofs.Std.{◌∷◌, map, filter, reverse, refl, sym, ◌∙◌, arith}
use Rattle.codespan_core.proofs.Std.{list_any, AllByRecursion, append-nil, filter_map-append}
use Rattle.codespan_core.proofs.Std.{◌&&◌}
use Rattle.std.proofs.lemmas.List.Elements.{filter_agree}
use Rattle.codespan_core.specs.Labels.{LaneMark}
use Rattle.codespan_views.specs.Private.{Annotation, AnnotationKind, rank_of, is_before, shows_line}
use Rattle.codespan_views.specs.Private.{lane_marks_in, single_label_of, single_labels_in}
use Rattle.codespan_views.proofs.Annotations.Groups.{IsRising, are_shown}
use Rattle.codespan_views.proofs.Labels.OfFile.{has_label_range, is_of_range}
use Rattle.codespan_views.proofs.Annotations.Order.{kind_rises, line_rises, lane_mark_annotation}
use Rattle.codespan_views.proofs.Annotations.SingleLabelOrder.{IsOn}
use Rattle.codespan_views.proofs.Labels.TheirLines.{is_kind}
use Rattle.codespan_output.proofs.Order.OrderSorts.{has_range}
use Rattle.codespan_output.proofs.Utf8.ListElements.{all-weaker, all-both, any-nothing}
use Rattle.codespan_output.proofs.Utf8.ListElements.{filter-filter}
use Rattle.codespan_output.proofs.Order.SortedLists.{Rises}
use Rattle.codespan_output.proofs.Order.SortedFilters.{reverse-cons}

-- ---- the annotations of a group

-- the labels of a range are those of its annotations
pub single_labels-of_range : (start end : ℕ) (es : List Annotation)
    → filter (has_range start end) (single_labels_in es) ≡ single_labels_in
    (filter (is_of_range start end) es)
single_labels-of_range start end [] = refl
single_labels-of_range start end (x ∷ xs) = grind
    (arith, common_steps, has_range, single_labels-of_range start end xs)

-- they are annotations of labels inside the line
pub range-rank : (start end : ℕ) (es : List Annotation)
    → filter (is_of_range start end) (filter (is_kind 1) es) ≡ filter (is_of_range start end) es
range-rank start end es = filter-filter _ _ es ∙ filter_agree _ _ (λ e. by_kind e.kind) es
  where
    by_kind : (s : AnnotationKind)
        → ((rank_of s == 1) && has_label_range start end (single_label_of s))
        ≡ has_label_range start end (single_label_of s)
    by_kind s = grind (arith, common_steps)

-- the lane marks are the annotations of their kind
pub lane_marks-rank : (es : List Annotation)
    → lane_marks_in es ≡ lane_marks_in (filter (is_kind 2) es)
lane_marks-rank [] = refl
lane_marks-rank (x ∷ xs) = grind (arith, common_steps, lane_marks-rank xs)

-- those of annotations of lane marks
pub lane_marks-of_annotations : (f l : ℕ) (ms : List LaneMark)
    → lane_marks_in (map (lane_mark_annotation f l) ms) ≡ ms
lane_marks-of_annotations f l [] = refl
lane_marks-of_annotations f l (m ∷ ms) = grind
    (arith, common_steps, lane_marks-of_annotations f l ms)

-- the labels of annotations from the end
pub single_labels-reverse : (es : List Annotation)
    → single_labels_in (reverse es) ≡ reverse (single_labels_in es)
single_labels-reverse [] = refl
single_labels-reverse (x ∷ xs) = grind
    (arith, common_steps, reverse-cons, filter_map-append, append-nil, single_labels-reverse xs)

-- the first annotation of a line shows it if any does
pub first-shows : (f l : ℕ) (g : List Annotation) → AllByRecursion (IsOn f l) g
    → Rises is_before g
    → are_shown g ≡ list_any shows_line g
first-shows f l [] on up = refl
first-shows f l (x ∷ xs) on up = grind (arith, common_steps, any-nothing, later)
  where
    later : shows_line x ≡ false → AllByRecursion (λ y. shows_line y ≡ false) xs
    later t = all-weaker _ _
        (λ y (h : IsOn f l y × (is_before y x ≡ false)). grind
        (arith, common_steps, kind_rises))
        xs (all-both _ _ xs on.1 up.0)

-- ---- annotations in order

-- the lines of a file's annotations do not decrease
pub lines-rise : (f : ℕ) (es : List Annotation) → AllByRecursion (λ e. e.file_index ≡ f) es
    → Rises is_before es → IsRising (λ e. e.line) es
lines-rise f [] h a = tt
lines-rise f (x ∷ xs) h a = (
  all-weaker _ _ (λ y b. line_rises x y (h.0 ∙ sym b.0) b.1) xs (all-both _ _ xs h.1 a.0),
  lines-rise f xs h.1 a.1,
)
