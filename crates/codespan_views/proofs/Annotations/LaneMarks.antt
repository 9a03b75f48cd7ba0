-- The order of the lane marks on a line, for the clauses `in_order` of `render_line` and
-- `render_break`, and those of `render_snippets` and `RichDiagnostic::render`.
use Rattle.codespan_core.proofs.Std.{common_steps, ◌≡◌, ℕ, ◌+◌, ◌≤◌, true}
use Rattle.codespan_core.proofs.Std.{◌&&◌, List, [], ◌∷◌, length, map, refl, arith}
use Rattle.codespan_core.proofs.Std.{nat_le, nat_lt, AllByRecursion, enumerate_from, filter_map}
use Rattle.codespan_core.proofs.Std.{nat_tests, and_parts}
use Rattle.codespan_core.specs.FileModel.{FileModel}
use Rattle.codespan_core.specs.Labels.{LabelModel, LaneMark, lane_mark_of, lane_marks_on}
use Rattle.codespan_core.specs.Labels.{multi_label_on}
use Rattle.codespan_output.specs.Arguments.{ascend_from}
use Rattle.codespan_output.specs.Snippets.{LabeledFileModel}
use Rattle.codespan_views.specs.Private.{is_before}
use Rattle.codespan_views.proofs.Annotations.Order.{lane_below, lane_mark_annotation}
use Rattle.codespan_output.proofs.Utf8.ListElements.{all-weaker}
use Rattle.codespan_output.proofs.Order.SortedLists.{Climbs}
use Rattle.codespan_output.specs.Private.LineRows.{num_multi_labels}

-- ---- the lane marks of a file's labels

-- the lane marks on a line of these labels, whose lanes begin here
abbrev pub marks_from : FileModel → ℕ → ℕ → List LabelModel → List LaneMark
marks_from f l n ys =
    filter_map
    (λ (annotation : ℕ × LabelModel). lane_mark_of annotation.0 annotation.1
    (multi_label_on f l annotation.1))
    (enumerate_from n ys)

-- they ascend from a lane on
ascend-from : (f : FileModel) (l count n least : ℕ) (ys : List LabelModel) → least ≤ n
    → n + length ys ≡ count → ascend_from count least (marks_from f l n ys) ≡ true
ascend-from f l count n least [] low total = refl
ascend-from f l count n least (y ∷ ys) low total = grind (
  arith,
  common_steps,
  nat_tests,
  ascend-from f l count (n + 1) (n + 1) ys,
  ascend-from f l count (n + 1) least ys,
)

-- the lane marks of a line ascend in the lanes of its file
pub lane_marks-ascend : (s : LabeledFileModel) (l : ℕ)
    → ascend_from (num_multi_labels s) 0 (lane_marks_on s.file s.labels l) ≡ true
lane_marks-ascend s l = grind (arith, common_steps, ascend-from)

-- ---- lane marks that ascend

-- they are in no lesser lane
ascend-above : (count least : ℕ) (ms : List LaneMark) → ascend_from count least ms ≡ true
    → AllByRecursion (λ (m : LaneMark). least ≤ m.lane) ms
ascend-above count least [] up = tt
ascend-above count least (m ∷ ms) up = grind
    (arith, common_steps, nat_tests, and_parts, all-weaker, ascend-above count (m.lane + 1) ms)

-- their annotations ascend
pub ascend-climbs : (f l count least : ℕ) (ms : List LaneMark)
    → ascend_from count least ms ≡ true
    → Climbs is_before (map (lane_mark_annotation f l) ms)
ascend-climbs f l count least [] up = tt
ascend-climbs f l count least (m ∷ ms) up =
    let parts =
    and_parts (nat_le least m.lane && nat_lt m.lane count) (ascend_from count (m.lane + 1) ms)
    up in (
      later ms (ascend-above count (m.lane + 1) ms parts.1),
      ascend-climbs f l count (m.lane + 1) ms parts.1,
    )
  where
    later : (ks : List LaneMark) → AllByRecursion (λ (k : LaneMark). m.lane + 1 ≤ k.lane) ks
        → AllByRecursion (λ e. is_before (lane_mark_annotation f l m) e ≡ true)
        (map (lane_mark_annotation f l) ks)
    later [] h = tt
    later (k ∷ ks) h = grind (arith, common_steps, lane_below, later ks)
