-- For `bars_are_labels`: the bars of source rows and break rows.
use Rattle.codespan_core.proofs.Std.{◌≡◌, ℕ, zero, suc, ◌+◌, ◌-◌, ◌<◌, Bool}
use Rattle.codespan_core.proofs.Std.{true, false, ◌==◌, nat_lt, nat_le, ◌&&◌, List, []}
use Rattle.codespan_core.proofs.Std.{◌∷◌, filter_map, Option, Some, None, slice_get, add-zero}
use Rattle.codespan_core.proofs.Std.{zero-add, refl, sym, ap, ◌∙◌, arith, enumerate_from}
use Rattle.codespan_core.proofs.Std.{cons_option, nat_tests, if◌then◌else◌}
use Rattle.std.proofs.Common.{◌↔◌}
use Rattle.codespan_core.specs.FileModel.{FileModel, line_start, line_text}
use Rattle.codespan_core.specs.Labels.{LabelModel, first_line, last_line, multi_label_on}
use Rattle.codespan_core.specs.Labels.{lane_mark_of, lane_marks_on, multi_line_labels, LaneMark}
use Rattle.codespan_core.specs.Labels.{MultiLabel, Top, Left, Bottom}
use Rattle.codespan_core.specs.Streams.{Stream}
use Rattle.codespan_output.specs.Types.{Layout}
use Rattle.codespan_output.specs.declared.lane_shapes.Shape.{Shape}
use Rattle.codespan_output.specs.declared.lane_shapes.Shape.TheVariants.{Space, Bar, TopCorner}
use Rattle.codespan_output.specs.{lane_mark_in, shape_of, shape_in, HasLane, IsBarLine, SourceRow}
use Rattle.codespan_output.specs.{BreakRow, leading_whitespace, text_without_line_end}
use Rattle.codespan_output.specs.{LabeledFileModel, line_at, Source, EmptyOrBreak, row_shape}

-- ---- the multi-line label mark of a lane

abbrev pub lane_mark_for : FileModel → ℕ → ℕ → Option LabelModel → Option LaneMark
lane_mark_for f l lane None = None
lane_mark_for f l lane (Some x) = lane_mark_of lane x (multi_label_on f l x)

abbrev pub marks_from : FileModel → ℕ → ℕ → List LabelModel → List LaneMark
marks_from f l n xs =
    filter_map
    (λ (entry : ℕ × LabelModel). lane_mark_of entry.0 entry.1 (multi_label_on f l entry.1))
    (enumerate_from n xs)

-- a lookup in a lane skips the lane mark of another lane
pass_by : (lane n : ℕ) (x : LabelModel) (multi_label : Option MultiLabel)
    (lane_marks : List LaneMark)
    → (n == lane) ≡ false
    → lane_mark_in (cons_option (lane_mark_of n x multi_label) lane_marks) lane ≡ lane_mark_in
    lane_marks lane
pass_by lane n x None lane_marks h = refl
pass_by lane n x (Some multi_label) lane_marks h = simp h

-- no lane mark of the labels from lane `n` on is in an earlier lane
none_before : (f : FileModel) (l n lane : ℕ) (xs : List LabelModel) → lane < n
    → lane_mark_in (marks_from f l n xs) lane ≡ None
none_before f l n lane [] low = refl
none_before f l n lane (x ∷ xs) low =
    pass_by lane n x (multi_label_on f l x) (marks_from f l (n + 1) xs) (grind (arith, nat_tests))
    ∙ none_before f l (n + 1) lane xs (omega arith)

found : (lane : ℕ) (x : LabelModel) (multi_label : Option MultiLabel) (lane_marks : List LaneMark)
    → lane_mark_in lane_marks lane ≡ None
    → lane_mark_in (cons_option (lane_mark_of lane x multi_label) lane_marks) lane
    ≡ lane_mark_of
    lane x multi_label
found lane x None lane_marks none = none
found lane x (Some multi_label) lane_marks none =
    let same : (lane == lane) ≡ true = grind (arith, nat_tests) in
    simp same

pub lane_mark_in-from : (f : FileModel) (l n k : ℕ) (xs : List LabelModel)
    → lane_mark_in (marks_from f l n xs) (n + k) ≡ lane_mark_for f l (n + k) (slice_get xs k)
lane_mark_in-from f l n k [] = refl
lane_mark_in-from f l n zero (x ∷ xs) =
    rw add-zero
    (found n x (multi_label_on f l x) (marks_from f l (n + 1) xs)
    (none_before f l (n + 1) n xs (omega arith)))
lane_mark_in-from f l n (suc k) (x ∷ xs) =
    let e : n + suc k ≡ (n + 1) + k = omega arith in
    pass_by (n + suc k) n x (multi_label_on f l x) (marks_from f l (n + 1) xs)
    (grind (arith, nat_tests))
    ∙ rw e (lane_mark_in-from f l (n + 1) k xs)

-- ---- bars

-- a kind of row in which a label shows no bar on its first line, and a bar on its other lines
module _ (shape : MultiLabel → Shape)
    (at_top : (start : ℕ) → shape (Top start) ≡ Bar → ⊥)
    (at_left : shape Left ≡ Bar)
    (at_bottom : (end : ℕ) (message : Stream) → shape (Bottom end message) ≡ Bar) where
  bar_of : (f : FileModel) (l lane : ℕ) (x : LabelModel) → first_line f x < last_line f x
      → (shape_of shape (lane_mark_of lane x (multi_label_on f l x)) ≡ Bar) ↔ IsBarLine f x l
  bar_of f l lane x order = by_first (first_line f x == l) refl
    where
      between : Option MultiLabel
      between = if nat_lt (first_line f x) l && nat_lt l (last_line f x) then Some Left else None

      bottom : Option MultiLabel
      bottom = Some (Bottom (x.end - line_start f l) x.message)

      by_between : (first_line f x == l) ≡ false → (last_line f x == l) ≡ false → (b : Bool)
          → (nat_lt (first_line f x) l && nat_lt l (last_line f x)) ≡ b
          → (shape_of shape (lane_mark_of lane x (if b then Some Left else None)) ≡ Bar) ↔
          IsBarLine
          f x l
      by_between not_first not_last true is =
          let low : first_line f x < l = grind (arith, nat_tests) in
          let high : l < last_line f x = grind (arith, nat_tests) in
          (λ _. (low, omega arith), λ _. at_left)
      by_between not_first not_last false is =
          (λ bar. cc, λ covered. absurd (grind (arith, nat_tests)))

      by_last : (first_line f x == l) ≡ false → (b : Bool) → (last_line f x == l) ≡ b
          → (shape_of shape (lane_mark_of lane x (if b then bottom else between)) ≡ Bar) ↔
          IsBarLine
          f x l
      by_last not_first true is =
          let same : last_line f x ≡ l = grind (arith, nat_tests) in
          (λ _. (omega arith, omega arith), λ _. at_bottom (x.end - line_start f l) x.message)
      by_last not_first false is =
          by_between not_first is (nat_lt (first_line f x) l && nat_lt l (last_line f x)) refl

      by_first : (b : Bool) → (first_line f x == l) ≡ b
          → (shape_of shape
          (lane_mark_of lane x
          (if b then Some (Top (x.start - line_start f l)) else if last_line f x == l then bottom
          else between))
          ≡ Bar)
          ↔ IsBarLine f x l
      by_first true is =
          let same : first_line f x ≡ l = grind (arith, nat_tests) in (
            λ bar. absurd (at_top (x.start - line_start f l) bar),
            λ covered. absurd (omega (arith, covered.0)),
          )
      by_first false is = by_last is (last_line f x == l) refl

no_bar_in_top : (layout : Layout) (leading lane start : ℕ)
    → row_shape layout leading Source lane (Top start) ≡ Bar → ⊥
no_bar_in_top layout leading lane start bar = by_test (nat_le start leading) bar
  where
    by_test : (b : Bool) → (if b then TopCorner else Space) ≡ Bar → ⊥
    by_test true bar = cc
    by_test false bar = cc

-- on its own lane a label has a bar on each line that it covers
pub bars_are_labels : (layout : Layout) (s : LabeledFileModel) (l lane : ℕ) (x : LabelModel)
    → HasLane s lane x → first_line s.file x < last_line s.file x
    → ((shape_in layout (SourceRow (line_at s l)) lane ≡ Bar) ↔ IsBarLine s.file x l)
    × ((shape_in layout (BreakRow (line_at s l).lanes) lane ≡ Bar) ↔ IsBarLine s.file x l)
bars_are_labels layout s l lane x has several = (
  rw lane_mark_is
      (bar_of
      (row_shape layout (leading_whitespace (text_without_line_end (line_text s.file l))) Source
      lane)
      (no_bar_in_top layout _ lane) refl (λ _ _. refl) s.file l lane x several),
  rw lane_mark_is
      (bar_of (row_shape layout 0 EmptyOrBreak lane) (λ start bar. cc) refl (λ _ _. refl) s.file l
      lane x
      several),
)
  where
    lane_mark_is : lane_mark_in (lane_marks_on s.file s.labels l) lane ≡ lane_mark_of lane x
        (multi_label_on s.file l x)
    lane_mark_is =
        ap (lane_mark_in (lane_marks_on s.file s.labels l)) (sym (zero-add lane))
        ∙ lane_mark_in-from s.file l 0 lane (multi_line_labels s.file s.labels)
        ∙ rw (zero-add, has)
