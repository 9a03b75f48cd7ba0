-- For `LabelCursor::advance`, `StartCursor::start_style` and the calls of `CachedCursor`: a cursor
-- over the labels of a line, which passes them as they start.
use Rattle.codespan_core.proofs.Std.{◌≡◌, ℕ, ◌+◌, ◌<◌, ◌≤◌, max, Bool, true}
use Rattle.codespan_core.proofs.Std.{false, ◌&&◌, ◌||◌, nat_lt, nat_le, List, [], ◌∷◌}
use Rattle.codespan_core.proofs.Std.{◌++◌, length, drop, get_or, drop-cons, add-one, refl}
use Rattle.codespan_core.proofs.Std.{arith, Option, Some, None, if◌then◌else◌, IfSome}
use Rattle.codespan_core.proofs.Std.{and_parts, nat_tests, len_utf8, chars, len_utf8_bounds}
use Rattle.codespan_core.proofs.Std.{common_steps}
use Rattle.std.proofs.Props.{props}
use Rattle.std.proofs.Math.Logic.{∥∥₁_elim}
use Rattle.std.specs.Iterator.{YieldsFirst}
use Rattle.codespan_core.specs.Labels.{LabelModel}
use Rattle.codespan_output.specs.declared.char_metrics.Metrics.{Metrics}
use Rattle.codespan_output.specs.CharMetrics.{metrics_then, width_at}
use Rattle.codespan_output.specs.Carets.{covers}
use Rattle.codespan_output.specs.Arguments.{SingleLabelTuple, single_label_view, single_label_views}
use Rattle.codespan_output.specs.Arguments.{starts_from}
use Rattle.codespan_output.specs.Private.CharCursors.{AreContiguous, is_covered}
use Rattle.codespan_renderer.specs.declared.term.renderer.cached.label_cursor.LabelCursor.{LabelCursor}
use Rattle.codespan_renderer.specs.Private.{after_last, no_more, remaining_from_cache, IsBefore}
use Rattle.codespan_renderer.specs.Private.{HasReturned, end_with, IsCoverEnd, HasPassedLabels}
use Rattle.codespan_renderer.specs.declared.term.renderer.cached.cached_metrics.MetricsFromCache.{MetricsFromCache}

-- a label that starts before the character's end covers it where the label has a byte and ends past
-- the byte index of the character
covers-prefix : (x : LabelModel) (c : Metrics) → x.start < c.byte_index + c.bytes
    → 1 ≤ c.bytes
    → covers x c ≡ (nat_lt x.start x.end && nat_lt c.byte_index x.end)
covers-prefix x c h some = grind (arith, nat_tests)

-- such a label is over the character where its end raises the greatest one past the byte index of
-- the character
end-raised : (counts : Bool) (end : ℕ) (x : LabelModel) (c : Metrics)
    → x.start < c.byte_index + c.bytes → 1 ≤ c.bytes
    → nat_lt c.byte_index
    (end_with counts end x) ≡ (nat_lt c.byte_index end || (counts && covers x c))
end-raised counts end x c h some =
    rw (covers-prefix x c h some) (by_test counts (nat_lt x.start x.end))
  where
    by_test : (b d : Bool)
        → nat_lt c.byte_index
        (if b && d then max end x.end else end)
        ≡ (nat_lt c.byte_index end || (b && (d && nat_lt c.byte_index x.end)))
    by_test true true = grind (arith, nat_tests)
    by_test true false = grind (arith, nat_tests)
    by_test false d = grind (arith, nat_tests)

or-assoc : (a b c : Bool) → (a || (b || c)) ≡ ((a || b) || c)
or-assoc true b c = refl
or-assoc false b c = refl

-- the next label starts before this byte index, and is passed
pub reached-more : (test : LabelModel → Bool) (labels left rest : List LabelModel)
    (x : LabelModel) (byte_index end : ℕ)
    → left ≡ x ∷ rest → x.start < byte_index
    → IsCoverEnd test labels left byte_index end
    → IsCoverEnd test labels rest byte_index (end_with (test x) end x)
reached-more test labels left rest x byte_index end step prefix r =
    grind (arith, common_steps, or-assoc, end-raised)

-- labels that start at the character's end or later do not cover it
uncovered : (test : LabelModel → Bool) (xs : List LabelModel) (byte_index : ℕ) (c : Metrics)
    → starts_from byte_index xs ≡ true → c.byte_index + c.bytes ≤ byte_index
    → is_covered test xs c ≡ false
uncovered test [] byte_index c ordered past = refl
uncovered test (x ∷ xs) byte_index c ordered past =
    let parts = and_parts (nat_le byte_index x.start) (starts_from x.start xs) ordered in
    let low : byte_index ≤ x.start = grind (arith, nat_tests) in
    let here : covers x c ≡ false = grind (arith, nat_tests) in
    rw (here, uncovered test xs x.start c parts.1 (omega arith)) (by_test (test x))
  where
    by_test : (b : Bool) → ((b && false) || false) ≡ false
    by_test true = refl
    by_test false = refl

or-false : (b : Bool) → (b || false) ≡ b
or-false true = refl
or-false false = refl

-- all labels that start before the character's end have been passed
pub reached-here : (test : LabelModel → Bool) (labels left : List LabelModel)
    (byte_index end : ℕ)
    (c : Metrics)
    → c.byte_index + c.bytes ≡ byte_index → 1 ≤ c.bytes
    → starts_from byte_index left ≡ true → IsCoverEnd test labels left byte_index end
    → is_covered test labels c ≡ nat_lt c.byte_index end
reached-here test labels left byte_index end c ends some ordered r =
    grind (arith, common_steps, uncovered, or-false)

-- ---- labels in order

-- a label of a list, and those after it in the same list
pub labels-step : (ys xs : List SingleLabelTuple) (i : ℕ) (d : SingleLabelTuple) → ys ≡ xs
    → i < length xs
    → single_label_views (drop i ys) ≡ single_label_view (get_or xs i d) ∷ single_label_views
    (drop (i + 1) ys)
labels-step ys xs i d same h = rw (same, drop-cons xs i d h, add-one) refl

-- they start from an earlier byte index on
pub starts-lower : (xs : List LabelModel) (low byte_index : ℕ) → low ≤ byte_index
    → starts_from byte_index xs ≡ true → starts_from low xs ≡ true
starts-lower [] low byte_index h ordered = refl
starts-lower (x ∷ xs) low byte_index h ordered = grind (arith, common_steps, and_parts)

-- those after the first one
pub starts-next : (low : ℕ) (left rest : List LabelModel) (x : LabelModel) → left ≡ x ∷ rest
    → starts_from low left ≡ true → starts_from low rest ≡ true
starts-next low left rest x step ordered = grind (arith, common_steps, and_parts, starts-lower)

-- the first one of those that are left starts no earlier than they do
pub starts-first : (low : ℕ) (ys xs : List SingleLabelTuple) (i : ℕ) (d : SingleLabelTuple)
    → ys ≡ xs → i < length xs → starts_from low (single_label_views (drop i ys)) ≡ true
    → low ≤ (get_or xs i d).1.start
starts-first low ys xs i d same h ordered = grind (arith, common_steps, and_parts, labels-step)

-- those after one that starts before a byte index
pub starts-rest : (low : ℕ) (ys xs : List SingleLabelTuple) (i : ℕ) (d : SingleLabelTuple)
    (byte_index : ℕ)
    → ys ≡ xs → i < length xs → (get_or xs i d).1.start < byte_index
    → starts_from low (single_label_views (drop i ys)) ≡ true
    → starts_from low (single_label_views (drop (i + 1) ys)) ≡ true
starts-rest low ys xs i d byte_index same h prefix ordered =
    starts-next low (single_label_views (drop i ys)) (single_label_views (drop (i + 1) ys))
    (single_label_view (get_or xs i d)) (labels-step ys xs i d same h) ordered

-- where it does not start before a byte index, all start there or later
pub starts-past : (low : ℕ) (ys xs : List SingleLabelTuple) (i byte_index : ℕ)
    (d : SingleLabelTuple)
    → ys ≡ xs → i < length xs
    → nat_lt (single_label_view (get_or xs i d)).start byte_index ≡ false
    → starts_from low (single_label_views (drop i ys)) ≡ true
    → starts_from byte_index (single_label_views (drop i ys)) ≡ true
starts-past low ys xs i byte_index d same h late ordered =
    grind (arith, common_steps, labels-step, and_parts)

-- ---- characters one after another

-- the characters of a line, and what comes after the last one
follow-then : (after : ℕ → ℕ → List Metrics) (tab byte_index column : ℕ)
    (codes : List ℕ)
    → ((p q : ℕ) → AreContiguous p (after p q))
    → AreContiguous byte_index (metrics_then after tab byte_index column codes)
follow-then after tab byte_index column [] last = last byte_index column
follow-then after tab byte_index column (c ∷ cs) last = (
  refl,
  omega (arith, (len_utf8_bounds c).0),
  follow-then after tab (byte_index + len_utf8 c) (column + width_at tab column c) cs last,
)

-- the characters of a line, and the placeholder where `has_placeholder` is set
pub follow-after : (has_placeholder : Bool) (tab : ℕ) (text : List ℕ)
    → AreContiguous 0 (metrics_then (after_last has_placeholder) tab 0 0 (chars text))
follow-after true tab text = grind (arith, common_steps, follow-then)
follow-after false tab text = follow-then no_more tab 0 0 (chars text) (λ p q. tt)

-- ---- a cursor over labels and characters

passed-later : (s : LabelCursor) (p q : ℕ) → p ≤ q → HasPassedLabels p s
    → HasPassedLabels q s
passed-later s p q h m = grind (arith, common_steps)

-- the characters after some of those that follow one another
follow-rest : (byte_index : ℕ) (before left : List Metrics)
    → AreContiguous byte_index (before ++ left)
    → (q : ℕ) × (byte_index ≤ q) × AreContiguous q left
follow-rest byte_index [] left follow = (byte_index, omega arith, follow)
follow-rest byte_index (c ∷ cs) left follow =
    grind (arith, common_steps, follow-rest (byte_index + c.bytes) cs left follow.2)

-- before some characters of a line, the first ones left out
pub cursor-start : (s : LabelCursor) (before left : List Metrics) → HasPassedLabels 0 s
    → AreContiguous 0 (before ++ left) → ∥ IsBefore s left ∥₁
cursor-start s before left passed follow = grind (arith, common_steps, follow-rest, passed-later)

module _ (s : LabelCursor) (left rest : List Metrics) (c : Metrics) (step : left ≡ c ∷ rest)
  where
    here : (w : IsBefore s left) → AreContiguous w.byte_index (c ∷ rest)
    here w = rw step at w.contiguous

    -- it returns the next character
    pub cursor-returns : ∥ IsBefore s left ∥₁ → ∥ HasReturned c s rest ∥₁
    cursor-returns before_it =
        ∥∥₁_elim before_it (Prim.hlevel props)
        (λ w. ∣
        record {
          has_byte =
              (here w).1;
          passed = rw (here w).0 w.passed;
          contiguous = rw (here w).0 (here w).2;
        }
        ∣₁)

-- and goes on after it, whether or not the style under it was requested
pub cursor-goes_on : (s : LabelCursor) (rest : List Metrics) (c : Metrics)
    → ∥ HasReturned c s rest ∥₁ → ∥ IsBefore s rest ∥₁
cursor-goes_on s rest c returned =
    ∥∥₁_elim returned (Prim.hlevel props)
    (λ g. ∣
    record {
      byte_index =
          c.byte_index + c.bytes;
      passed =
          passed-later s c.byte_index (c.byte_index + c.bytes) (omega arith) g.passed;
      contiguous =
          g.contiguous;
    }
    ∣₁)

-- as it does where none is left
pub cursor-next : (s : LabelCursor) (old new : MetricsFromCache) (r : Option Metrics)
    → YieldsFirst remaining_from_cache old r new
    → ∥ IsBefore s (remaining_from_cache old) ∥₁
    → ∥ IsBefore s (remaining_from_cache new) ∥₁
cursor-next s old new (Some c) step before_it =
    cursor-goes_on s (remaining_from_cache new) c
    (cursor-returns s (remaining_from_cache old) (remaining_from_cache new) c step before_it)
cursor-next s old new None ends before_it = grind (arith, common_steps)

-- what it has returned
pub cursor-next_returned : (s : LabelCursor) (old new : MetricsFromCache) (r : Option Metrics)
    → YieldsFirst remaining_from_cache old r new
    → ∥ IsBefore s (remaining_from_cache old) ∥₁
    → IfSome r (λ c. ∥ HasReturned c s (remaining_from_cache new) ∥₁)
cursor-next_returned s old new (Some c) step before_it =
    cursor-returns s (remaining_from_cache old) (remaining_from_cache new) c step before_it
cursor-next_returned s old new None ends before_it = tt

pub cursor-passed : (s t : LabelCursor) (rest : List Metrics) (c : Metrics)
    → ∥ HasReturned c s rest ∥₁ → HasPassedLabels (c.byte_index + c.bytes) t
    → ∥ IsBefore t rest ∥₁
cursor-passed s t rest c returned passed =
    ∥∥₁_elim returned (Prim.hlevel props)
    (λ g. ∣ record {
      byte_index = c.byte_index + c.bytes;
      passed = passed;
      contiguous = g.contiguous;
    } ∣₁)
