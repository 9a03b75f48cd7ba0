-- The width up to a byte index, by a search among the cached characters of a line: serves
-- `width_up_to` of a cached line and `column_past` of a scan.
use Rattle.codespan_core.proofs.Std.{◌≡◌, ℕ, zero, suc, ◌+◌, ◌<◌, ◌≤◌, true}
use Rattle.codespan_core.proofs.Std.{false, List, [], ◌∷◌, ◌++◌, length, get_or, leb}
use Rattle.codespan_core.proofs.Std.{refl, sym, ap, subst, arith, lt-leb, len_utf8_bounds, len_utf8}
use Rattle.codespan_core.proofs.Std.{nat_le, chars, nat_tests, common_steps}
use Rattle.std.specs.List.Sorted.{IsPartitionPoint}
use Rattle.std.specs.Str.Iter.{chars_rest}
use Rattle.codespan_output.specs.declared.char_metrics.Metrics.{Metrics}
use Rattle.codespan_output.specs.CharMetrics.{char_metrics, metrics_then, placeholder, width_of}
use Rattle.codespan_output.specs.CharMetrics.{width_at}
use Rattle.codespan_output.specs.RowParts.{metrics_up_to}
use Rattle.codespan_renderer.specs.declared.term.renderer.char_metrics.CharMetrics.{CharMetrics}
use Rattle.codespan_renderer.specs.Private.{metrics_from, no_more, AreCached}
use Rattle.codespan_output.proofs.Characters.Consecutive.{AreConsecutive, char_metrics-consecutive}
use Rattle.codespan_output.proofs.Characters.Consecutive.{none-before}
use Rattle.codespan_output.proofs.Characters.Widths.{width-in}

-- the default of `get_or`, for an index past the end of the list
abbrev pub default_metrics : Metrics
default_metrics = record { ch = 0; byte_index = 0; bytes = 0; column = 0; unicode_width = 0 }

-- ---- consecutive characters

-- no character begins before the first byte index
pub consecutive-low : (byte_index column : ℕ) (cs : List Metrics) (j : ℕ) (d : Metrics)
    → AreConsecutive byte_index column cs → j < length cs
    → byte_index ≤ (get_or cs j d).byte_index
consecutive-low byte_index column [] j d adjacent h = absurd (omega arith)
consecutive-low byte_index column (c ∷ cs) zero d adjacent h = grind (arith, common_steps)
consecutive-low byte_index column (c ∷ cs) (suc j) d adjacent h =
    let more = consecutive-low (byte_index + c.bytes) (column + c.unicode_width) cs j d adjacent.3
    (omega arith) in
    omega arith

-- they begin one after another
pub consecutive-ascends : (byte_index column : ℕ) (cs : List Metrics) (d : Metrics)
    → AreConsecutive byte_index column cs
    → (i j : ℕ) → i ≤ j → j < length cs
    → (get_or cs i d).byte_index ≤ (get_or cs j d).byte_index
consecutive-ascends byte_index column [] d adjacent i j low h = absurd (omega arith)
consecutive-ascends byte_index column (c ∷ cs) d adjacent zero j low h =
    grind (arith, common_steps, consecutive-low)
consecutive-ascends byte_index column (c ∷ cs) d adjacent (suc i) zero low h = absurd
    (omega arith)
consecutive-ascends byte_index column (c ∷ cs) d adjacent (suc i) (suc j) low h =
    consecutive-ascends (byte_index + c.bytes) (column + c.unicode_width) cs d adjacent.3 i j
    (omega arith) (omega arith)

-- so do the first ones
pub consecutive-front : (byte_index column : ℕ) (xs ys : List Metrics)
    → AreConsecutive byte_index column (xs ++ ys) → AreConsecutive byte_index column xs
consecutive-front byte_index column [] ys adjacent = tt
consecutive-front byte_index column (x ∷ xs) ys adjacent = (
  adjacent.0,
  adjacent.1,
  adjacent.2,
  consecutive-front (byte_index + x.bytes) (column + x.unicode_width) xs ys adjacent.3,
)

-- so do those of a line and the placeholder
pub consecutive-to_end : (tab byte_index column : ℕ) (codes : List ℕ)
    → AreConsecutive byte_index column (metrics_then placeholder tab byte_index column codes)
consecutive-to_end tab byte_index column [] = (refl, refl, omega arith, tt)
consecutive-to_end tab byte_index column (c ∷ cs) = (
  refl,
  refl,
  omega (arith, (len_utf8_bounds c).0),
  consecutive-to_end tab (byte_index + len_utf8 c) (column + width_at tab column c) cs,
)

-- none of them begins at a byte index before the first one, or before that
pub past-none : (byte_index from column : ℕ) (cs : List Metrics) → AreConsecutive from column cs
    → byte_index < from → metrics_up_to byte_index cs ≡ []
past-none byte_index from column cs adjacent far =
    none-before (λ q. nat_le q byte_index) from column cs adjacent
    (λ q low. lt-leb q byte_index (omega (arith, far, low)))

-- ---- where a search stops

-- at a cached one: its column is the width of those before it
pub width-cut : (byte_index from column : ℕ) (d : Metrics) (xs ys : List Metrics) (next : ℕ)
    → AreConsecutive from column (xs ++ ys) → next < length xs
    → ((k : ℕ) → k < next → (get_or xs k d).byte_index ≤ byte_index)
    → byte_index < (get_or xs next d).byte_index
    → (get_or xs next d).column ≡ column + width_of (metrics_up_to byte_index (xs ++ ys))
width-cut byte_index from column d [] ys next adjacent h low high = absurd (omega arith)
width-cut byte_index from column d (x ∷ xs) ys zero adjacent h low high =
    grind (arith, common_steps, past-none)
width-cut byte_index from column d (x ∷ xs) ys (suc next) adjacent h low high =
    let rest =
    width-cut byte_index (from + x.bytes) (column + x.unicode_width) d xs ys next adjacent.3
    (omega arith) (λ k less. low (suc k) (omega arith)) high in
    omega (arith, width-in byte_index x (xs ++ ys) (low 0 (omega arith)), rest)

-- the column of the first one of a line and the placeholder
head-column : (tab byte_index column : ℕ) (codes : List ℕ) (p q : ℕ)
    → AreConsecutive p q (metrics_then placeholder tab byte_index column codes) → column ≡ q
head-column tab byte_index column [] p q adjacent = adjacent.1
head-column tab byte_index column (c ∷ cs) p q adjacent = adjacent.1

-- past all cached ones: the scan goes on from their width
pub width-past : (byte_index from column : ℕ) (d : Metrics) (xs ys : List Metrics) (tab p q : ℕ)
    (codes : List ℕ)
    → AreConsecutive from column (xs ++ metrics_then placeholder tab p q codes)
    → ((k : ℕ) → k < length xs → (get_or xs k d).byte_index ≤ byte_index)
    → q + width_of (metrics_up_to byte_index ys) ≡ column + width_of
    (metrics_up_to byte_index (xs ++ ys))
width-past byte_index from column d [] ys tab p q codes adjacent low =
    let at = head-column tab p q codes from column adjacent in omega (arith, at)
width-past byte_index from column d (x ∷ xs) ys tab p q codes adjacent low =
    let rest =
    width-past byte_index (from + x.bytes) (column + x.unicode_width) d xs ys tab p q codes
    adjacent.3 (λ k less. low (suc k) (omega arith)) in
    omega (arith, width-in byte_index x (xs ++ ys) (low 0 (omega arith)), rest)

-- ---- of a cached line

-- where the search stops at a cached character
pub cached-cut : (tab : ℕ) (text : List ℕ) (cached : List Metrics) (rest : CharMetrics)
    (byte_index count : ℕ) (d : Metrics)
    → AreCached tab text cached rest
    → IsPartitionPoint (λ (y : Metrics). leb y.byte_index byte_index ≡ true)
    (λ (y : Metrics). leb y.byte_index byte_index ≡ false) cached count
    → count < length cached
    → (get_or cached count d).column
    ≡ width_of (metrics_up_to byte_index (char_metrics tab text))
cached-cut tab text cached rest byte_index count d are point h =
    let all : cached ++ metrics_from no_more rest ≡ char_metrics tab text = are no_more in
    let adjacent : AreConsecutive 0 0 (cached ++ metrics_from no_more rest) =
    subst (λ (cs : List Metrics). AreConsecutive 0 0 cs) (sym all)
    (char_metrics-consecutive tab 0 0 (chars text)) in
    let at = width-cut byte_index 0 0 d cached (metrics_from no_more rest) count adjacent h
    (λ k low. (let test = point.0 k d (omega arith) low in grind (arith, nat_tests)))
    (let test = point.1 count d (omega arith) h in grind (arith, nat_tests)) in
    omega (arith, at, ap (λ (cs : List Metrics). width_of (metrics_up_to byte_index cs)) all)

-- where it passes all of them
pub cached-past : (tab : ℕ) (text : List ℕ) (cached : List Metrics) (rest : CharMetrics)
    (byte_index count : ℕ) (d : Metrics)
    → AreCached tab text cached rest
    → IsPartitionPoint (λ (y : Metrics). leb y.byte_index byte_index ≡ true)
    (λ (y : Metrics). leb y.byte_index byte_index ≡ false) cached count
    → length cached ≤ count
    → rest.column + width_of (metrics_up_to byte_index (metrics_from no_more rest)) ≡ width_of
    (metrics_up_to byte_index (char_metrics tab text))
cached-past tab text cached rest byte_index count d are point h =
    let all : cached ++ metrics_from no_more rest ≡ char_metrics tab text = are no_more in
    let adjacent : AreConsecutive 0 0 (cached ++ metrics_from placeholder rest) =
    subst (λ (cs : List Metrics). AreConsecutive 0 0 cs) (sym (are placeholder))
    (consecutive-to_end tab 0 0 (chars text)) in
    let at = width-past byte_index 0 0 d cached (metrics_from no_more rest) rest.tab_width
    rest.byte_index rest.column (chars (chars_rest rest.chars)) adjacent
    (λ k low.
    (let test = point.0 k d (omega arith) (omega (arith, low, h)) in grind (arith, nat_tests))) in
    omega (arith, at, ap (λ (cs : List Metrics). width_of (metrics_up_to byte_index cs)) all)

-- cached characters begin one after another
pub cached-ascends : (tab : ℕ) (text : List ℕ) (cached : List Metrics) (rest : CharMetrics)
    → AreCached tab text cached rest
    → (i j : ℕ) → i ≤ j → j < length cached
    → (get_or cached i default_metrics).byte_index
    ≤ (get_or cached j default_metrics).byte_index
cached-ascends tab text cached rest are =
    let adjacent : AreConsecutive 0 0 (cached ++ metrics_from no_more rest) =
    subst (λ (cs : List Metrics). AreConsecutive 0 0 cs) (sym (are no_more))
    (char_metrics-consecutive tab 0 0 (chars text)) in
    consecutive-ascends 0 0 cached default_metrics
    (consecutive-front 0 0 cached (metrics_from no_more rest) adjacent)
