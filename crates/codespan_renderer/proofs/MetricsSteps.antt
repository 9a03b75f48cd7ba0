-- For `CharMetrics::next_metrics` and `width_at`: a step over one character of a line.
use Rattle.codespan_core.proofs.Std.{◌≡◌, ℕ, ◌+◌, ◌-◌, ◌≤◌, lt-ltb, List, []}
use Rattle.codespan_core.proofs.Std.{◌∷◌, ◌++◌, length, length-append, refl, ap}
use Rattle.codespan_core.proofs.Std.{◌∙◌, arith, encode_utf8, len_utf8, IsUtf8, chars, ne_eqb}
use Rattle.codespan_core.proofs.Std.{length-encode, common_steps}
use Rattle.std.proofs.lemmas.Str.{chars_past_char, chars-nil}
use Rattle.codespan_output.specs.declared.char_metrics.Metrics.{Metrics}
use Rattle.codespan_output.specs.CharMetrics.{metrics_then, width_at}
use Rattle.unicode_width.specs.Width.{char_width}

-- a printable character of ASCII occupies one cell
pub width_at-printable : (tab column c : ℕ) → 32 ≤ c → c ≤ 126
    → 1 ≡ width_at tab column c
unfolding char_width
width_at-printable tab column c low high = grind (arith, common_steps, ne_eqb, lt-ltb)

-- the first of the remaining characters
pub metrics_then-char : (after : ℕ → ℕ → List Metrics) (tab byte_index column : ℕ)
    (bs rest : List ℕ) (c bytes width : ℕ)
    → IsUtf8 bs → bs ≡ encode_utf8 c ++ rest → bytes ≡ len_utf8 c
    → width ≡ width_at tab column c
    → metrics_then after tab byte_index column (chars bs)
    ≡ record {
      ch =
          c;
      byte_index = byte_index;
      bytes = bytes;
      column = column;
      unicode_width = width;
    }
    ∷ metrics_then after tab (byte_index + bytes) (column + width) (chars rest)
metrics_then-char after tab byte_index column bs rest c bytes width u e b w =
    ap (metrics_then after tab byte_index column) (chars_past_char bs rest c u e) ∙ rw (b, w) refl

-- none remains
pub metrics_then-end : (after : ℕ → ℕ → List Metrics) (tab byte_index column : ℕ)
    (bs : List ℕ)
    → length bs ≡ 0
    → metrics_then after tab byte_index column (chars bs) ≡ after byte_index column
metrics_then-end after tab byte_index column [] e = grind (arith, common_steps, chars-nil)
metrics_then-end after tab byte_index column (b ∷ bs) e = absurd (omega arith)

-- how many bytes of the remaining text it took
pub bytes-taken : (previous left bs rest : List ℕ) (c : ℕ) → previous ≡ bs → left ≡ rest
    → bs ≡ encode_utf8 c ++ rest → length previous - length left ≡ len_utf8 c
bytes-taken previous left bs rest c w l e =
    grind (arith, common_steps, length-append, length-encode)
