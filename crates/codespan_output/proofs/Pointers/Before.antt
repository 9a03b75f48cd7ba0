-- For `write_pointer_row` and `write_hanging_row`: the pointers of the characters before a byte
-- index, with spaces between.
use Rattle.codespan_core.proofs.Std.{◌≡◌, ℕ, ◌+◌, ◌≤◌, Bool, true, false, cond}
use Rattle.codespan_core.proofs.Std.{nat_lt, nat_le, List, [], ◌∷◌, Option, Some, None, refl}
use Rattle.codespan_core.proofs.Std.{sym, ap, ◌∙◌, arith, nat_tests}
use Rattle.codespan_core.specs.Labels.{LabelModel}
use Rattle.codespan_output.specs.Types.{LabelStyle, Metrics}
use Rattle.codespan_output.specs.{width_of, RowContext, hanging_labels, max_label_start, pointers}
use Rattle.codespan_output.specs.{metrics_before, metrics_up_to}
use Rattle.codespan_output.specs.Private.{pointer_style_if_any, pointer_under, pointers_in}
use Rattle.codespan_output.specs.Private.{pointers_before, spaced}
use Rattle.codespan_output.proofs.Characters.Consecutive.{AreConsecutive, none-before}
use Rattle.codespan_output.proofs.Pointers.Spaced.{spaced-line}

-- ---- the characters before a byte index

-- they are consecutive, as all are
before-consecutive : (before byte_index column : ℕ) (cs : List Metrics)
    → AreConsecutive byte_index column cs
    → AreConsecutive byte_index column (metrics_before before cs)
before-consecutive before byte_index column [] adjacent = tt
before-consecutive before byte_index column (c ∷ cs) adjacent =
    by_test
    (before-consecutive before (byte_index + c.bytes) (column + c.unicode_width) cs adjacent.3)
    (nat_lt c.byte_index before) refl
  where
    by_test : AreConsecutive (byte_index + c.bytes) (column + c.unicode_width)
        (metrics_before before cs)
        → (b : Bool) → nat_lt c.byte_index before ≡ b
        → AreConsecutive byte_index column
        (cond b (c ∷ metrics_before before cs) (metrics_before before cs))
    by_test rest true is = (adjacent.0, adjacent.1, adjacent.2, rest)
    by_test rest false is =
        let none : metrics_before before cs ≡ [] =
        none-before (λ q. nat_lt q before) (byte_index + c.bytes) (column + c.unicode_width) cs
        adjacent.3 (λ q low. (let here = adjacent.0 in grind (arith, nat_tests))) in
        rw none tt

-- their pointers are those before the byte index
before-found : (labels : List LabelModel) (before byte_index column : ℕ) (cs : List Metrics)
    → AreConsecutive byte_index column cs
    → pointers_in labels (metrics_before before cs)
    ≡ pointers_before before (pointers_in labels cs)
before-found labels before byte_index column [] adjacent = refl
before-found labels before byte_index column (c ∷ cs) adjacent =
    by_both
    (before-found labels before (byte_index + c.bytes) (column + c.unicode_width) cs adjacent.3)
    (nat_lt c.byte_index before) (pointer_style_if_any labels c) refl refl
  where
    by_both : pointers_in labels (metrics_before before cs) ≡ pointers_before before
        (pointers_in labels cs)
        → (b : Bool) (o : Option LabelStyle) → nat_lt c.byte_index before ≡ b
        → pointer_style_if_any labels c ≡ o
        → pointers_in labels (metrics_before before (c ∷ cs)) ≡ pointers_before before
        (pointers_in labels (c ∷ cs))
    by_both rest true None is found = rw (is, found) rest
    by_both rest true (Some style) is found =
        rw (is, found, is) (ap (λ ps. pointer_under c style ∷ ps) rest)
    by_both rest false None is found = rw (is, found) rest
    by_both rest false (Some style) is found =
        let none : metrics_before before cs ≡ [] =
        none-before (λ q. nat_lt q before) (byte_index + c.bytes) (column + c.unicode_width) cs
        adjacent.3 (λ q low. (let here = adjacent.0 in grind (arith, nat_tests))) in
        rw (is, found, is, none) refl

-- they all begin at the greatest start or before it
before-reach : (before reach : ℕ) (cs : List Metrics) → before ≤ reach
    → metrics_up_to reach (metrics_before before cs) ≡ metrics_before before cs
before-reach before reach [] low = refl
before-reach before reach (c ∷ cs) low =
    by_test (before-reach before reach cs low) (nat_lt c.byte_index before) refl
  where
    by_test : metrics_up_to reach (metrics_before before cs) ≡ metrics_before before cs
        → (b : Bool)
        → nat_lt c.byte_index before ≡ b
        → metrics_up_to reach
        (cond b (c ∷ metrics_before before cs) (metrics_before before cs))
        ≡ cond b (c ∷ metrics_before before cs) (metrics_before before cs)
    by_test rest true is = let near : nat_le c.byte_index reach
        ≡ true = grind (arith, nat_tests) in
        rw near (ap (λ ds. c ∷ ds) rest)
    by_test rest false is = rest

-- ---- as rows have them

-- all pointers of a line
pub spaced-all : (context : RowContext) (labels : List LabelModel) (cs : List Metrics)
    (top reach edge : ℕ)
    → AreConsecutive 0 0 cs → metrics_before top cs ≡ cs → reach ≡ max_label_start labels
    → edge ≡ width_of (metrics_up_to reach cs)
    → spaced context edge 0 (pointers_before top (pointers_in (hanging_labels labels) cs))
    ≡ pointers context labels cs
spaced-all context labels cs top reach edge adjacent all far wide =
    let whole = sym (before-found (hanging_labels labels) top 0 0 cs adjacent)
    ∙ ap (pointers_in (hanging_labels labels)) all in
    rw (wide, far, whole) (spaced-line context labels cs adjacent)

-- those before a byte index
pub spaced-near : (context : RowContext) (labels : List LabelModel) (cs : List Metrics)
    (before edge : ℕ)
    → AreConsecutive 0 0 cs → before ≤ max_label_start labels
    → edge ≡ width_of (metrics_before before cs)
    → spaced context edge 0 (pointers_before before (pointers_in (hanging_labels labels) cs))
    ≡ pointers context labels (metrics_before before cs)
spaced-near context labels cs before edge adjacent near wide =
    let found = before-found (hanging_labels labels) before 0 0 cs adjacent in
    let reach = before-reach before (max_label_start labels) cs near in
    rw (wide ∙ ap width_of (sym reach), ← found)
    (spaced-line context labels (metrics_before before cs)
    (before-consecutive before 0 0 cs adjacent))
