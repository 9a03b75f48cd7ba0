-- For `leading_whitespace` and `write_colored_text`: a step over one character of a text.
use Rattle.codespan_core.proofs.Std.{◌≡◌, ℕ, ◌+◌, ◌-◌, ◌≤◌, true, false, cond}
use Rattle.codespan_core.proofs.Std.{List, [], ◌∷◌, ◌++◌, length, drop, length-append}
use Rattle.codespan_core.proofs.Std.{length-drop, ap, ◌∙◌, arith, sum_by, encode_utf8}
use Rattle.codespan_core.proofs.Std.{len_utf8, IsUtf8, chars, sum_by-cons, length-encode}
use Rattle.std.specs.Prelude.{take_while}
use Rattle.std.specs.Char.{is_whitespace}
use Rattle.std.proofs.lemmas.List.Sums.{take_while-cons}
use Rattle.std.proofs.lemmas.Str.{chars_past_char, chars-nil}
use Rattle.codespan_output.specs.{leading_whitespace}

-- a remaining character fits in the text
pub bytes_left : (text rest : List ℕ) (byte_index c : ℕ)
    → drop byte_index text ≡ encode_utf8 c ++ rest → len_utf8 c ≤ length text - byte_index
bytes_left text rest byte_index c e =
    omega (
      arith,
      ap length e,
      length-drop byte_index text,
      length-append (encode_utf8 c) rest,
      length-encode c,
    )

-- ---- white space at the start of a line

-- the white space continues
pub leading-more : (bs rest : List ℕ) (c : ℕ) → IsUtf8 bs → bs ≡ encode_utf8 c ++ rest
    → is_whitespace c ≡ true → leading_whitespace bs ≡ len_utf8 c + leading_whitespace rest
leading-more bs rest c u e h =
    ap (λ cs. sum_by len_utf8 (take_while is_whitespace cs)) (chars_past_char bs rest c u e)
    ∙ ap (sum_by len_utf8)
    (take_while-cons is_whitespace c (chars rest)
    ∙ ap (λ b. cond b (c ∷ take_while is_whitespace (chars rest)) []) h)
    ∙ sum_by-cons len_utf8 c (take_while is_whitespace (chars rest))

-- the white space ends
pub leading-stop : (bs rest : List ℕ) (c : ℕ) → IsUtf8 bs → bs ≡ encode_utf8 c ++ rest
    → is_whitespace c ≡ false → leading_whitespace bs ≡ 0
leading-stop bs rest c u e h =
    ap (λ cs. sum_by len_utf8 (take_while is_whitespace cs)) (chars_past_char bs rest c u e)
    ∙ ap (sum_by len_utf8)
    (take_while-cons is_whitespace c (chars rest)
    ∙ ap (λ b. cond b (c ∷ take_while is_whitespace (chars rest)) []) h)

-- nothing remains
pub leading-end : (bs : List ℕ) → length bs ≡ 0 → leading_whitespace bs ≡ 0
leading-end [] e = ap (λ cs. sum_by len_utf8 (take_while is_whitespace cs)) chars-nil
leading-end (b ∷ bs) e = absurd (omega arith)
