-- For `skipped_before` and `characters_from_labels`: the cached characters of a line before the
-- first one that its carets need.
use Rattle.codespan_core.proofs.Std.{◌≡◌, None, Some, ℕ, zero, suc, ◌+◌, ◌<◌}
use Rattle.codespan_core.proofs.Std.{◌≤◌, true, List, [], ◌∷◌, take, length, get_or}
use Rattle.codespan_core.proofs.Std.{refl, sym, ap, subst, ◌∙◌, arith, min, fold, add-zero}
use Rattle.codespan_core.proofs.Std.{chars, nat_le, slice_get, and_parts, nat_tests, sum_by-cons}
use Rattle.codespan_core.specs.Labels.{LabelModel}
use Rattle.codespan_output.specs.declared.char_metrics.Metrics.{Metrics}
use Rattle.codespan_output.specs.CharMetrics.{width_of}
use Rattle.codespan_output.specs.Arguments.{SingleLabelTuple, single_label_view, single_label_views}
use Rattle.codespan_output.specs.Arguments.{starts_from, starts_in_order}
use Rattle.codespan_output.specs.Private.LineCharacters.{EndBy}
use Rattle.codespan_output.specs.Private.RowLabels.{least_start}
use Rattle.codespan_renderer.specs.declared.term.renderer.char_metrics.CharMetrics.{CharMetrics}
use Rattle.codespan_renderer.specs.Private.{metrics_from, no_more, AreCached}
use Rattle.codespan_output.proofs.Characters.Consecutive.{AreConsecutive, char_metrics-consecutive}
use Rattle.codespan_renderer.proofs.WidthSearch.{consecutive-front, consecutive-low}

-- the characters before one that begins at a byte index or before it end by that index
end-by : (byte_index from column : ℕ) (cs : List Metrics) (n : ℕ) (d : Metrics)
    → AreConsecutive from column cs → n < length cs
    → (get_or cs n d).byte_index ≤ byte_index
    → EndBy byte_index (take n cs)
end-by byte_index from column [] n d adjacent h low = absurd (omega arith)
end-by byte_index from column (c ∷ cs) zero d adjacent h low = tt
end-by byte_index from column (c ∷ cs) (suc n) d adjacent h low =
    let later = consecutive-low (from + c.bytes) (column + c.unicode_width) cs n d adjacent.3
    (omega arith) in (
      omega (arith, adjacent.0, later, low),
      end-by byte_index (from + c.bytes)
          (column + c.unicode_width) cs n d adjacent.3 (omega arith) low,
    )

-- its column is their width
column-past : (from column : ℕ) (cs : List Metrics) (n : ℕ) (d : Metrics)
    → AreConsecutive from column cs → n < length cs
    → (get_or cs n d).column ≡ column + width_of (take n cs)
column-past from column [] n d adjacent h = absurd (omega arith)
column-past from column (c ∷ cs) zero d adjacent h = adjacent.1 ∙ sym (add-zero column)
column-past from column (c ∷ cs) (suc n) d adjacent h =
    column-past (from + c.bytes) (column + c.unicode_width) cs n d adjacent.3 (omega arith)
    ∙ omega (arith, sum_by-cons (λ (x : Metrics). x.unicode_width) c (take n cs))

module _ (tab : ℕ) (text : List ℕ) (cached : List Metrics) (rest : CharMetrics)
    (are : AreCached tab text cached rest) where
  adjacent : AreConsecutive 0 0 cached
  adjacent =
      consecutive-front 0 0 cached (metrics_from no_more rest)
      (subst (λ (cs : List Metrics). AreConsecutive 0 0 cs) (sym (are no_more))
      (char_metrics-consecutive tab 0 0 (chars text)))

  -- those before the character at an index, which begins at this byte index
  pub cached-ended : (byte_index n : ℕ) (d : Metrics) → n < length cached
      → (get_or cached n d).byte_index ≡ byte_index → EndBy byte_index (take n cached)
  cached-ended byte_index n d h here =
      end-by byte_index 0 0 cached n d adjacent h (omega (arith, here))

  pub cached-width : (n : ℕ) (d : Metrics) → n < length cached
      → (get_or cached n d).column ≡ width_of (take n cached)
  cached-width n d h = column-past 0 0 cached n d adjacent h ∙ omega arith

-- ---- the least start of labels in order

least-past : (low m : ℕ) (xs : List LabelModel) → starts_from low xs ≡ true → m ≤ low
    → fold (λ n (x : LabelModel). min x.start n) m xs ≡ m
least-past low m [] ordered h = refl
least-past low m (x ∷ xs) ordered h =
    let parts = and_parts (nat_le low x.start) (starts_from x.start xs) ordered in
    let far : low ≤ x.start = (let test = parts.0 in grind (arith, nat_tests)) in
    let same : min x.start m ≡ m = omega arith in
    ap (λ k. fold (λ n (y : LabelModel). min y.start n) k xs) same
    ∙ least-past x.start m xs parts.1 (omega arith)

-- it is that of the first one
least-first : (end : ℕ) (x : LabelModel) (xs : List LabelModel)
    → starts_in_order (x ∷ xs) ≡ true
    → min x.start end ≡ least_start end (x ∷ xs)
least-first end x xs ordered =
    let parts = and_parts (nat_le 0 x.start) (starts_from x.start xs) ordered in
    sym (least-past x.start (min x.start end) xs parts.1 (omega arith))

pub least-of_first : (end : ℕ) (label : SingleLabelTuple) (labels : List SingleLabelTuple)
    → Some label ≡ slice_get labels 0 → starts_in_order (single_label_views labels) ≡ true
    → min label.1.start end ≡ least_start end (single_label_views labels)
least-of_first end label [] first ordered = cc
least-of_first end label (x ∷ xs) first ordered =
    let same : label ≡ x = cc in
    ap (λ (l : SingleLabelTuple). min l.1.start end) same
    ∙ least-first end (single_label_view x) (single_label_views xs) ordered

-- where there is no label, it is the byte index
pub least-of_none : (end : ℕ) (labels : List SingleLabelTuple) → None ≡ slice_get labels 0
    → end ≡ least_start end (single_label_views labels)
least-of_none end [] none = refl
least-of_none end (x ∷ xs) none = absurd cc
