-- For `write_carets`: the characters that a loop over a line leaves out, since they end before all
-- labels start.
use Rattle.codespan_core.proofs.Std.{◌≡◌, ℕ, ◌+◌, ◌-◌, ◌^◌, ◌<◌, ◌≤◌}
use Rattle.codespan_core.proofs.Std.{Bool, true, false, ◌&&◌, ◌||◌, ◌==◌, ◌%◌, List}
use Rattle.codespan_core.proofs.Std.{[], ◌∷◌, ◌++◌, None, refl, sym, ap, subst, ◌∙◌}
use Rattle.codespan_core.proofs.Std.{arith, min, fold, add-zero, list_any, len_utf8, chars}
use Rattle.codespan_core.proofs.Std.{if◌then◌else◌, nat_tests, sum_by-cons}
use Rattle.codespan_core.specs.Labels.{LabelModel, is_primary}
use Rattle.codespan_output.specs.Types.{Metrics}
use Rattle.codespan_output.specs.{covers, max_label_end, style_under, metrics_then}
use Rattle.codespan_output.specs.{char_metrics_to_end, placeholder, width_at, width_of, RowContext}
use Rattle.codespan_output.specs.{carets}
use Rattle.codespan_output.specs.Private.{EndBy, LeavesOut, least_start}
use Rattle.unicode_width.proofs.Rules.{width_or_zero, width_or_zero-le}
use Rattle.codespan_output.proofs.Carets.Runs.{carets_left, carets-same, carets-start, counts-all}
use Rattle.codespan_output.proofs.Characters.ScanState.{ConsecutiveWithin, ScanState}
use Rattle.codespan_output.proofs.Characters.ScanState.{scan_state-more, consecutive_within-follow}

-- ---- what is under no label

least-le : (m : ℕ) (xs : List LabelModel)
    → fold (λ n (x : LabelModel). min x.start n) m xs ≤ m
least-le m [] = omega arith
least-le m (x ∷ xs) = let more = least-le (min x.start m) xs in omega arith

none-over : (m : ℕ) (passes : LabelModel → Bool) (c : Metrics) (xs : List LabelModel)
    → c.byte_index + c.bytes ≤ fold (λ n (x : LabelModel). min x.start n) m xs
    → list_any (λ x. passes x && covers x c) xs ≡ false
none-over m passes c [] ended = refl
none-over m passes c (x ∷ xs) ended =
    let least = least-le (min x.start m) xs in
    let here : covers x c ≡ false = grind (arith, nat_tests) in
    rw (here, none-over (min x.start m) passes c xs ended) (by_test (passes x))
  where
    by_test : (b : Bool) → ((b && false) || false) ≡ false
    by_test true = refl
    by_test false = refl

-- a character that ends before all labels start has none over it
bare : (end : ℕ) (labels : List LabelModel) (c : Metrics)
    → c.byte_index + c.bytes ≤ least_start end labels → style_under labels c ≡ None
bare end labels c ended =
    rw (none-over end is_primary c labels ended, none-over end (λ _. true) c labels ended) refl

-- the carets of a line, of which the first characters are left out
carets-more : (context : RowContext) (labels : List LabelModel) (top byte_index column run : ℕ)
    (before left : List Metrics)
    → ConsecutiveWithin top byte_index column (before ++ left)
    → EndBy (least_start (max_label_end labels) labels) before
    → carets_left context labels None run (before ++ left) ≡ carets_left context labels None
    (run + width_of before) left
carets-more context labels top byte_index column run [] left consecutive_within ended =
    ap (λ n. carets_left context labels None n left) (sym (add-zero run))
carets-more context labels top byte_index column run (c ∷ cs) left consecutive_within ended =
    let least = least-le (max_label_end labels) labels in
    let low : c.byte_index < max_label_end labels =
    omega (arith, consecutive_within.0.some, ended.0) in
    let none = bare (max_label_end labels) labels c ended.0 in
    carets-same context labels None None run c.unicode_width c (c ∷ cs ++ left) (cs ++ left) refl
    (sym none) (counts-all None (max_label_end labels) c low) refl
    ∙ carets-more context labels top (byte_index + c.bytes) (column + c.unicode_width)
    (run + c.unicode_width) cs left consecutive_within.1 ended.1
    ∙ ap (λ n. carets_left context labels None n left)
    (omega (arith, sum_by-cons (λ (x : Metrics). x.unicode_width) c cs))

pub carets-prefix : (context : RowContext) (labels : List LabelModel) (top column : ℕ)
    (all left : List Metrics) (scan_state : ScanState top 0 all)
    → LeavesOut (least_start (max_label_end labels) labels) all column left
    → carets_left context labels None column left ≡ carets context labels all
carets-prefix context labels top column all left scan_state out =
    let consecutive_within : ConsecutiveWithin top scan_state.byte_index scan_state.column
    (out.before ++ left) =
    subst
    (λ (cs : List Metrics). ConsecutiveWithin top scan_state.byte_index scan_state.column cs)
    (sym out.whole) scan_state.consecutive_within in
    ap (λ n. carets_left context labels None n left) (omega (arith, out.width))
    ∙ sym
    (carets-more context labels top scan_state.byte_index scan_state.column 0 out.before left
    consecutive_within out.ended)
    ∙ ap (carets_left context labels None 0) out.whole
    ∙ carets-start context labels scan_state.byte_index all
    (consecutive_within-follow top scan_state.byte_index scan_state.column all
    scan_state.consecutive_within)

-- ---- how wide it is

-- each of the characters has fewer cells than a `usize` counts
abbrev AreNarrow : List Metrics → Type 0
AreNarrow [] = Unit {0}
AreNarrow (c ∷ cs) = (c.unicode_width < 2 ^ 64) × AreNarrow cs

width_at-narrow : (tab column c : ℕ) → tab < 2 ^ 64 → width_at tab column c < 2 ^ 64
width_at-narrow tab column c h = by_test (c == 9) (tab == 0)
  where
    by_test : (a b : Bool)
        → (if a then (if b then 0 else tab - column % tab) else width_or_zero false c) < 2 ^ 64
    by_test true true = omega arith
    by_test true false = omega arith
    by_test false b = omega (arith, width_or_zero-le false c)

then-narrow : (tab byte_index column : ℕ) (codes : List ℕ) → tab < 2 ^ 64
    → AreNarrow (metrics_then placeholder tab byte_index column codes)
then-narrow tab byte_index column [] h = (omega arith, tt)
then-narrow tab byte_index column (c ∷ cs) h = (
  width_at-narrow tab column c h,
  then-narrow tab (byte_index + len_utf8 c) (column + width_at tab column c) cs h,
)

scan_state-past : (top run : ℕ) (before left : List Metrics) → AreNarrow (before ++ left)
    → ScanState top run (before ++ left) → ScanState top (run + width_of before) left
scan_state-past top run [] left narrow l = subst (λ n. ScanState top n left) (sym (add-zero run)) l
scan_state-past top run (c ∷ cs) left narrow l =
    subst (λ n. ScanState top n left)
    (omega (arith, sum_by-cons (λ (x : Metrics). x.unicode_width) c cs))
    (scan_state-past top (run + c.unicode_width) cs left narrow.1
    (scan_state-more top run (run + c.unicode_width) c (cs ++ left) narrow.0 (omega arith) l))

-- a loop over the remaining characters of a line and the placeholder after the last one
pub scan_state-left : (tab : ℕ) (text : List ℕ) (byte_index column top : ℕ)
    (left : List Metrics)
    → tab < 2 ^ 64 → ScanState top 0 (char_metrics_to_end tab text)
    → LeavesOut byte_index (char_metrics_to_end tab text) column left
    → ScanState top column left
scan_state-left tab text byte_index column top left h scan_state out =
    let narrow : AreNarrow (out.before ++ left) =
    subst (λ (cs : List Metrics). AreNarrow cs) (sym out.whole)
    (then-narrow tab 0 0 (chars text) h) in
    let all : ScanState top 0 (out.before ++ left) =
    subst (λ (cs : List Metrics). ScanState top 0 cs) (sym out.whole) scan_state in
    subst (λ n. ScanState top n left) (omega (arith, out.width))
    (scan_state-past top 0 out.before left narrow all)
