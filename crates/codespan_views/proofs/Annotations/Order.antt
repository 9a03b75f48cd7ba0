-- The order of annotations, for the clauses `sorted` of `put_in_order` and `lane_marks_end`, and
-- that of `are_in_order`.
use Rattle.codespan_core.proofs.Std.{◌≡◌, ℕ, ◌-◌, ◌<◌, ◌≤◌, Bool, length}
use Rattle.codespan_core.proofs.Std.{get_or, true, false, List, arith, IsStrictWeakOrder, nat_tests}
use Rattle.codespan_core.proofs.Std.{get_or_default, ranks_by, IsSortedWithin, common_steps}
use Rattle.std.proofs.lemmas.Cmp.{nat_cmp_total, on_total, then_total, back_total}
use Rattle.codespan_core.specs.Labels.{LaneMark, LabelModel, range_precedes}
use Rattle.codespan_views.specs.Private.{Annotation, Single, Multi, rank_of, keys_of, IsLaneMarkOn}
use Rattle.codespan_views.specs.Private.{is_before}

-- the order of annotations is a strict weak order
pub below_order : IsStrictWeakOrder is_before
below_order = ranks_by
    (then_total (on_total (λ (e : Annotation). e.file_index) nat_cmp_total)
    (then_total (on_total (λ (e : Annotation). e.line) nat_cmp_total)
    (then_total (on_total (λ (e : Annotation). (keys_of e.kind).0) nat_cmp_total)
    (then_total (on_total (λ (e : Annotation). (keys_of e.kind).1) nat_cmp_total)
    (then_total (on_total (λ (e : Annotation). (keys_of e.kind).2) nat_cmp_total)
    (back_total (on_total (λ (e : Annotation). (keys_of e.kind).3) nat_cmp_total)))))))
    (λ e. e)

-- ---- annotations in order

-- along annotations in order the files do not decrease
pub file_rises : (x y : Annotation) → is_before y x ≡ false → x.file_index ≤ y.file_index
file_rises x y h = grind (arith, nat_tests)

-- nor do the lines of a file
pub line_rises : (x y : Annotation) → x.file_index ≡ y.file_index → is_before y x ≡ false
    → x.line ≤ y.line
line_rises x y e h = grind (arith, nat_tests)

-- nor do the ranks of a line's annotations
pub kind_rises : (x y : Annotation) → x.file_index ≡ y.file_index → x.line ≡ y.line
    → is_before y x ≡ false
    → rank_of x.kind ≤ rank_of y.kind
kind_rises x y e f h = grind (arith, nat_tests)

-- nor do the ranges of a line's single-line labels
pub range_rises : (x y : Annotation) {p q : ℕ} {a b : LabelModel} → x.kind ≡ Single p a
    → y.kind ≡ Single q b → x.file_index ≡ y.file_index → x.line ≡ y.line
    → is_before y x ≡ false → range_precedes b a ≡ false
range_rises x y {a = a} {b = b} xs ys e f h = grind (arith, nat_tests)

-- ---- annotations of one line

-- of labels with equal ranges the one at the greater index comes first
pub index_below : (f l : ℕ) {p q : ℕ} (x y : LabelModel) → x.start ≡ y.start
    → x.end ≡ y.end → p < q
    → is_before (record { file_index = f; line = l; kind = Single q y })
    (record { file_index = f; line = l; kind = Single p x }) ≡ true
index_below f l {p} {q} x y s e h = grind (arith, nat_tests)

-- the annotation of a lane mark
abbrev pub lane_mark_annotation : ℕ → ℕ → LaneMark → Annotation
lane_mark_annotation f l m = record { file_index = f; line = l; kind = Multi m }

-- of two lane marks of one line the one in the lesser lane comes first
pub lane_below : (f l : ℕ) (x y : LaneMark) → x.lane < y.lane
    → is_before (lane_mark_annotation f l x) (lane_mark_annotation f l y) ≡ true
lane_below f l x y h = grind (arith, nat_tests)

-- of two lane marks of one line the one in the greater lane does not come first, nor does either of
-- two in the same lane
pub mark_rises : (f l n m : ℕ) (x y : Annotation) → IsLaneMarkOn f l n x
    → IsLaneMarkOn f l m y
    → n ≤ m → is_before y x ≡ false
mark_rises f l n m x y a b h = grind (arith, nat_tests)

-- a list that is in order up to an index, from there on, and at that index, is in order
pub sorted-join : {X : Type 0} (lt : X → X → Bool) (xs : List X) (low middle high : ℕ)
    (x y : X)
    → x ≡ get_or xs (middle - 1) x → y ≡ get_or xs middle y → middle < length xs
    → lt y x ≡ false → IsSortedWithin lt xs low middle → IsSortedWithin lt xs middle high
    → IsSortedWithin lt xs low high
sorted-join lt xs low middle high x y is_x is_y inside here before after k d from below = grind
    (arith, common_steps, get_or_default)
