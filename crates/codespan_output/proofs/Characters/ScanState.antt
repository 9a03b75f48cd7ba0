-- For `write_carets` and `find_pointers`: how the characters of a line follow one another, and what
-- a loop over them knows of byte indices and columns.
use Rattle.codespan_core.proofs.Std.{◌≡◌, ℕ, ◌+◌, ◌*◌, ◌-◌, ◌^◌, ◌<◌}
use Rattle.codespan_core.proofs.Std.{◌≤◌, List, [], ◌∷◌, length, refl, sym, ap}
use Rattle.codespan_core.proofs.Std.{◌∙◌, arith, length-append, encode_utf8, len_utf8, IsUtf8}
use Rattle.codespan_core.proofs.Std.{chars, length-encode, len_utf8_bounds}
use Rattle.std.proofs.lemmas.Str.{encodes-chars}
use Rattle.codespan_output.specs.Types.{Metrics}
use Rattle.codespan_output.specs.{metrics_then, char_metrics, placeholder, char_metrics_to_end}
use Rattle.codespan_output.specs.{width_at}
use Rattle.codespan_output.specs.Private.{AreContiguous}
use lib.Utf8.{encodes}

-- a character is at this byte index and column, and ends at `top` at the most
pub record IsMetricsAt (top byte_index column : ℕ) (x : Metrics) : Type 0 where
  pub here : x.byte_index ≡ byte_index
  pub at : x.column ≡ column
  pub some : 1 ≤ x.bytes
  pub room : byte_index + x.bytes ≤ top

-- characters follow one another from a byte index and a column on
abbrev pub ConsecutiveWithin : ℕ → ℕ → ℕ → List Metrics → Type 0
ConsecutiveWithin top byte_index column [] = Unit {0}
ConsecutiveWithin top byte_index column (x ∷ cs) =
    IsMetricsAt top byte_index column x
    × ConsecutiveWithin top (byte_index + x.bytes) (column + x.unicode_width) cs

-- a loop has not reached these characters, and has counted `run` of the cells before them
pub record ScanState (top run : ℕ) (cs : List Metrics) : Type 0 where
  pub byte_index : ℕ
  pub column : ℕ
  pub consecutive_within : ConsecutiveWithin top byte_index column cs
  pub narrow : column ≤ byte_index * (2 ^ 64 - 1)
  pub small : run ≤ column

-- such characters are contiguous
pub consecutive_within-follow : (top byte_index column : ℕ) (cs : List Metrics)
    → ConsecutiveWithin top byte_index column cs → AreContiguous byte_index cs
consecutive_within-follow top byte_index column [] l = tt
consecutive_within-follow top byte_index column (x ∷ cs) l = (
  l.0.here,
  l.0.some,
  consecutive_within-follow top (byte_index + x.bytes) (column + x.unicode_width) cs l.1,
)

-- ---- the start of a loop

-- how many bytes characters have
abbrev bytes_of : List ℕ → ℕ
bytes_of [] = 0
bytes_of (c ∷ cs) = len_utf8 c + bytes_of cs

bytes_of-encodes : (cs : List ℕ) → length (encodes cs) ≡ bytes_of cs
bytes_of-encodes [] = refl
bytes_of-encodes (c ∷ cs) =
    length-append (encode_utf8 c) (encodes cs)
    ∙ omega (arith, length-encode c, bytes_of-encodes cs)

bytes_of-chars : (bs : List ℕ) → IsUtf8 bs → bytes_of (chars bs) ≡ length bs
bytes_of-chars bs u = sym (bytes_of-encodes (chars bs)) ∙ ap length (encodes-chars bs u)

consecutive_within-then : (after : ℕ → ℕ → List Metrics)
    (more top tab byte_index column : ℕ)
    (cs : List ℕ)
    → ((p q : ℕ) → p + more ≤ top → ConsecutiveWithin top p q (after p q))
    → byte_index + bytes_of cs + more ≤ top
    → ConsecutiveWithin top byte_index column (metrics_then after tab byte_index column cs)
consecutive_within-then after more top tab byte_index column [] last h =
    last byte_index column (omega arith)
consecutive_within-then after more top tab byte_index column (c ∷ cs) last h =
    let some = len_utf8_bounds c in (
      record { here = refl; at = refl; some = some.0; room = omega arith },
      consecutive_within-then
          after more top tab (byte_index + len_utf8 c) (column + width_at tab column c) cs last
          (omega arith),
    )

-- the characters of a line, and the placeholder after the last one
pub scan_state-to_end : (tab : ℕ) (text : List ℕ) → IsUtf8 text
    → ScanState (length text + 1) 0 (char_metrics_to_end tab text)
scan_state-to_end tab text u = record {
  byte_index = 0;
  column = 0;
  consecutive_within =
      consecutive_within-then placeholder 1 (length text + 1) tab 0 0 (chars text)
      (λ p q h. (record { here = refl; at = refl; some = omega arith; room = h }, tt))
      (omega (arith, bytes_of-chars text u));
  narrow = omega arith;
  small = omega arith;
}

-- the characters alone
pub scan_state-char_metrics : (tab : ℕ) (text : List ℕ) → IsUtf8 text
    → ScanState (length text) 0 (char_metrics tab text)
scan_state-char_metrics tab text u = record {
  byte_index = 0;
  column = 0;
  consecutive_within =
      consecutive_within-then (λ _ _. []) 0 (length text) tab 0 0 (chars text) (λ p q h. tt)
      (omega (arith, bytes_of-chars text u));
  narrow = omega arith;
  small = omega arith;
}

-- ---- a turn of a loop

-- one more cell can be counted
pub scan_state-fits : (top run : ℕ) (x : Metrics) (cs : List Metrics) → top ≤ 2 ^ 64
    → x.unicode_width < 2 ^ 64 → ScanState top run (x ∷ cs)
    → run + x.unicode_width < 2 ^ 128
scan_state-fits top run x cs t w l =
    let here = l.consecutive_within.0 in
    omega (arith, here.room, here.some, l.narrow, l.small)

-- how many cells are counted after it: at most those before it and its own
pub scan_state-more : (top run counted : ℕ) (x : Metrics) (cs : List Metrics)
    → x.unicode_width < 2 ^ 64 → counted ≤ run + x.unicode_width
    → ScanState top run (x ∷ cs)
    → ScanState top counted cs
scan_state-more top run counted x cs w h l =
    let here = l.consecutive_within.0 in
    record {
      byte_index = l.byte_index + x.bytes;
      column = l.column + x.unicode_width;
      consecutive_within = l.consecutive_within.1;
      narrow = omega (arith, here.some, l.narrow);
      small = omega (arith, l.small);
    }
