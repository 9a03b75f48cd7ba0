-- For `pointers_are_cells` and the cached pointers of `codespan_renderer`: the characters of a
-- line, one after another.
use Rattle.codespan_core.proofs.Std.{◌≡◌, ℕ, ◌+◌, ◌<◌, ◌≤◌, Bool, false, List}
use Rattle.codespan_core.proofs.Std.{[], ◌∷◌, filter, refl, arith, len_utf8, len_utf8_bounds}
use Rattle.codespan_output.specs.Types.{Metrics}
use Rattle.codespan_output.specs.{metrics_then, width_at}

-- they begin at this byte index and this column, each has a byte, and each follows the one before
abbrev pub AreConsecutive : ℕ → ℕ → List Metrics → Type 0
AreConsecutive byte_index column [] = Unit {0}
AreConsecutive byte_index column (c ∷ cs) =
    (c.byte_index ≡ byte_index) × (c.column ≡ column) × (0 < c.bytes)
    × AreConsecutive (byte_index + c.bytes) (column + c.unicode_width) cs

pub char_metrics-consecutive : (tab byte_index column : ℕ) (codes : List ℕ)
    → AreConsecutive byte_index column (metrics_then (λ _ _. []) tab byte_index column codes)
char_metrics-consecutive tab byte_index column [] = tt
char_metrics-consecutive tab byte_index column (c ∷ cs) = (
  refl,
  refl,
  omega (arith, (len_utf8_bounds c).0),
  char_metrics-consecutive tab (byte_index + len_utf8 c) (column + width_at tab column c) cs,
)

-- no character passes a test of byte indices that fails from the first one's on
pub none-before : (near : ℕ → Bool) (byte_index column : ℕ) (cs : List Metrics)
    → AreConsecutive byte_index column cs
    → ((q : ℕ) → byte_index ≤ q → near q ≡ false)
    → filter (λ (c : Metrics). near c.byte_index) cs ≡ []
none-before near byte_index column [] adjacent far = refl
none-before near byte_index column (c ∷ cs) adjacent far =
    let here = far c.byte_index (omega (arith, adjacent.0)) in
    simp here
    (none-before near (byte_index + c.bytes) (column + c.unicode_width) cs adjacent.3
    (λ q low. far q (omega arith)))
