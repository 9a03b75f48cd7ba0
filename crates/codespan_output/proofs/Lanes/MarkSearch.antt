-- For `lanes_join_corners`: the lane mark of a label among those of a line, and what it is by the
-- line.
use Rattle.codespan_core.proofs.Std.{◌≡◌, ℕ, zero, suc, ◌+◌, ◌<◌, ◌≤◌, true}
use Rattle.codespan_core.proofs.Std.{false, ◌&&◌, ◌==◌, nat_lt, List, [], ◌∷◌, Option}
use Rattle.codespan_core.proofs.Std.{Some, None, slice_get, ap, ◌∙◌, arith}
use Rattle.codespan_core.proofs.Std.{if◌then◌else◌, cons_option, AllByRecursion, nat_tests}
use Rattle.codespan_core.specs.FileModel.{FileModel}
use Rattle.codespan_core.specs.Labels.{LabelModel, multi_label_on, lane_mark_of, LaneMark}
use Rattle.codespan_core.specs.Labels.{MultiLabel, Left}
use Rattle.codespan_output.proofs.Lanes.Bars.{marks_from}
use Rattle.codespan_output.proofs.Lanes.LineRows.{lane_mark_with}
use Rattle.codespan_output.proofs.Lanes.LineBottoms.{Split}
use Rattle.codespan_output.proofs.Utf8.ListElements.{all-weaker}

-- ---- the multi-line label marks of a line in their order

each_lane_mark : (P : LaneMark → Type 0) (n : ℕ) (x : LabelModel)
    (multi_label : Option MultiLabel)
    (lane_marks : List LaneMark)
    → ((p : MultiLabel) → P (lane_mark_with n x.style p)) → AllByRecursion P lane_marks
    → AllByRecursion P (cons_option (lane_mark_of n x multi_label) lane_marks)
each_lane_mark P n x None lane_marks h a = a
each_lane_mark P n x (Some p) lane_marks h a = (h p, a)

each_from : (f : FileModel) (l n : ℕ) (xs : List LabelModel)
    → AllByRecursion (λ (o : LaneMark). n ≤ o.lane) (marks_from f l n xs)
each_from f l n [] = tt
each_from f l n (x ∷ xs) =
    each_lane_mark (λ (o : LaneMark). n ≤ o.lane) n x (multi_label_on f l x)
    (marks_from f l (n + 1) xs) (λ p. omega arith)
    (all-weaker (λ (o : LaneMark). n + 1 ≤ o.lane) (λ (o : LaneMark). n ≤ o.lane)
    (λ o h. omega arith) (marks_from f l (n + 1) xs) (each_from f l (n + 1) xs))

-- a split of lane marks, with the lane mark of one more label before them
split_later : (lane n : ℕ) (m : LaneMark) (x : LabelModel) (multi_label : Option MultiLabel)
    (lane_marks : List LaneMark)
    → n < lane → Split lane m lane_marks
    → Split lane m (cons_option (lane_mark_of n x multi_label) lane_marks)
split_later lane n m x None lane_marks h r = r
split_later lane n m x (Some p) lane_marks h r = record {
  low = lane_mark_with n x.style p ∷ r.low;
  high = r.high;
  is = ap (λ t. lane_mark_with n x.style p ∷ t) r.is;
  below = (h, r.below);
  above = r.above;
}

pub split_from : (f : FileModel) (l lane n k : ℕ) (xs : List LabelModel) (x : LabelModel)
    (multi_label : MultiLabel)
    → n + k ≡ lane → slice_get xs k ≡ Some x → multi_label_on f l x ≡ Some multi_label
    → Split lane (lane_mark_with lane x.style multi_label) (marks_from f l n xs)
split_from f l lane n k [] x multi_label e h is = cc
split_from f l lane n zero (y ∷ ys) x multi_label e h is = record {
  low = [];
  high = marks_from f l (n + 1) ys;
  is =
      let same : y ≡ x = cc in
      let here : n ≡ lane = omega arith in
      ap (λ z. cons_option (lane_mark_of n z (multi_label_on f l z)) (marks_from f l (n + 1) ys))
      same
      ∙ ap (λ q. cons_option (lane_mark_of n x q) (marks_from f l (n + 1) ys)) is
      ∙ ap (λ v. lane_mark_with v x.style multi_label ∷ marks_from f l (n + 1) ys) here;
  below = tt;
  above =
      all-weaker (λ (o : LaneMark). n + 1 ≤ o.lane) (λ (o : LaneMark). lane < o.lane)
      (λ o h. omega arith) (marks_from f l (n + 1) ys) (each_from f l (n + 1) ys);
}
split_from f l lane n (suc k) (y ∷ ys) x multi_label e h is =
    split_later lane n (lane_mark_with lane x.style multi_label) y (multi_label_on f l y)
    (marks_from f l (n + 1) ys) (omega arith)
    (split_from f l lane (n + 1) k ys x multi_label (omega arith) h is)

-- ---- what a label does on a line

abbrev multi_label_for : ℕ → ℕ → ℕ → MultiLabel → MultiLabel → Option MultiLabel
multi_label_for a b l top bottom =
    if a == l then Some top else if b == l then Some bottom
    else if nat_lt a l && nat_lt l b then Some Left else None

pub multi_label_before : (a b l : ℕ) (top bottom : MultiLabel) → a < b → l < a
    → multi_label_for a b l top bottom ≡ None
multi_label_before a b l top bottom order low =
    let first : (a == l) ≡ false = grind (arith, nat_tests) in
    let last : (b == l) ≡ false = grind (arith, nat_tests) in
    let inside : nat_lt a l ≡ false = grind (arith, nat_tests) in
    simp (first, last, inside)

pub multi_label_top : (a b l : ℕ) (top bottom : MultiLabel) → a ≡ l
    → multi_label_for a b l top bottom ≡ Some top
multi_label_top a b l top bottom same = let first : (a == l) ≡ true = grind (arith, nat_tests) in
    simp first

pub multi_label_left : (a b l : ℕ) (top bottom : MultiLabel) → a < l → l < b
    → multi_label_for a b l top bottom ≡ Some Left
multi_label_left a b l top bottom low high =
    let first : (a == l) ≡ false = grind (arith, nat_tests) in
    let last : (b == l) ≡ false = grind (arith, nat_tests) in
    let above : nat_lt a l ≡ true = grind (arith, nat_tests) in
    let below : nat_lt l b ≡ true = grind (arith, nat_tests) in
    simp (first, last, above, below)

pub multi_label_bottom : (a b l : ℕ) (top bottom : MultiLabel) → a < b → b ≡ l
    → multi_label_for a b l top bottom ≡ Some bottom
multi_label_bottom a b l top bottom order same =
    let first : (a == l) ≡ false = grind (arith, nat_tests) in
    let last : (b == l) ≡ true = grind (arith, nat_tests) in
    simp (first, last)

pub multi_label_after : (a b l : ℕ) (top bottom : MultiLabel) → a < b → b < l
    → multi_label_for a b l top bottom ≡ None
multi_label_after a b l top bottom order high =
    let first : (a == l) ≡ false = grind (arith, nat_tests) in
    let last : (b == l) ≡ false = grind (arith, nat_tests) in
    let above : nat_lt a l ≡ true = grind (arith, nat_tests) in
    let below : nat_lt l b ≡ false = grind (arith, nat_tests) in
    simp (first, last, above, below)
