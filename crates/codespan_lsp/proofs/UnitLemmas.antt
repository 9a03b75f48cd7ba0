-- Facts on code units, for the clauses of `encoding` and for the units of `IsByteAt`.
use Rattle.std.proofs.Common.{◌≡◌, ℕ, ◌+◌, ◌-◌, ◌<◌, ◌≤◌, List, []}
use Rattle.std.proofs.Common.{◌∷◌, ◌++◌, length, refl, arith, length-append}
use Rattle.std.specs.Prelude.{encode_utf8, encode_utf8_all}
use Rattle.std.proofs.lemmas.Bool.{cases_lt, lt-ltb, le-ltb, le-leb, lt-leb}
use Rattle.std.proofs.lemmas.List.{nil_from_length}
use Rattle.std.proofs.lemmas.List.Sums.{sum_by-cons, sum_by-append}
use Rattle.std.proofs.lemmas.Str.{chars-nil, chars_past_char, chars-append, encodes-chars}
use Rattle.std.proofs.lemmas.Str.{length-encode, len_utf8_bounds}
use Rattle.std.specs.Char.{len_utf8}
use Rattle.std.specs.Char.Escape.{encode_utf16}
use Rattle.std.specs.Str.{chars, IsUtf8}
use Rattle.codespan_lsp.specs.Units.{char_units, total_units, code_units, prefix_within}
use Rattle.codespan_lsp.specs.declared.encoding.PositionEncoding.{PositionEncoding}
use Rattle.codespan_lsp.specs.declared.encoding.PositionEncoding.TheVariants.{Utf8, Utf16, Utf32}
use Rattle.std.proofs.lemmas.Grind.{common_steps}

-- a character has one or two code units in UTF-16
pub utf16_len-low : (c : ℕ) → c < 65536 → length (encode_utf16 c) ≡ 1
utf16_len-low c h = rw (lt-ltb c 65536 h) refl

pub utf16_len-high : (c : ℕ) → 65536 ≤ c → length (encode_utf16 c) ≡ 2
utf16_len-high c h = rw (le-ltb c 65536 h) refl

-- and four bytes where it has two
utf8_len-high : (c : ℕ) → 65536 ≤ c → len_utf8 c ≡ 4
utf8_len-high c h = grind (arith, common_steps, le-ltb)

-- a character has one code unit at least, and no more than bytes
pub char_units_bounds : (encoding : PositionEncoding) (c : ℕ)
    → (1 ≤ char_units encoding c) × (char_units encoding c ≤ len_utf8 c)
char_units_bounds Utf8 c = ((len_utf8_bounds c).0, omega arith)
char_units_bounds Utf16 c =
    grind (
      arith,
      common_steps,
      cases_lt,
      utf16_len-low,
      len_utf8_bounds,
      utf16_len-high,
      utf8_len-high,
    )
char_units_bounds Utf32 c = (omega arith, (len_utf8_bounds c).0)

module _ (encoding : PositionEncoding) where
  -- an empty text has none
  pub code_units-empty : (text : List ℕ) → length text ≡ 0 → code_units encoding text ≡ 0
  code_units-empty text h = rw (nil_from_length text h, chars-nil) refl

  -- those of a text that begins with a character
  pub code_units-char : (text rest : List ℕ) (c : ℕ) → IsUtf8 text
      → text ≡ encode_utf8 c ++ rest
      → code_units encoding text ≡ char_units encoding c + code_units encoding rest
  code_units-char text rest c utf8 step = grind (arith, common_steps, chars_past_char, sum_by-cons)

  -- those of two texts in a row
  pub code_units-append : (xs ys : List ℕ) → IsUtf8 xs
      → code_units encoding (xs ++ ys) ≡ code_units encoding xs + code_units encoding ys
  code_units-append xs ys utf8 = grind (arith, common_steps, chars-append, sum_by-append)

  -- characters have no more code units than bytes
  pub total_units-le : (cs : List ℕ) → total_units encoding cs ≤ length (encode_utf8_all cs)
  total_units-le [] = omega arith
  total_units-le (c ∷ cs) =
      omega (
        arith,
        sum_by-cons (char_units encoding) c cs,
        (char_units_bounds encoding c).1,
        total_units-le cs,
        length-encode c,
        length-append (encode_utf8 c) (encode_utf8_all cs),
      )

  -- and as many as there are characters at least
  total_units-some : (cs : List ℕ) → 0 < length (encode_utf8_all cs)
      → 0 < total_units encoding cs
  total_units-some [] h = absurd (omega arith)
  total_units-some (c ∷ cs) h =
      omega (arith, sum_by-cons (char_units encoding) c cs, (char_units_bounds encoding c).0)

  -- and one at least, if it is not empty
  pub code_units-some : (text : List ℕ) → IsUtf8 text → 0 < length text
      → 0 < code_units encoding text
  code_units-some text utf8 h = grind (arith, common_steps, total_units-some, encodes-chars)

  -- a character that fits goes into the prefix
  pub prefix_within-more : (n : ℕ) (text rest : List ℕ) (c : ℕ) → IsUtf8 text
      → text ≡ encode_utf8 c ++ rest → char_units encoding c ≤ n
      → prefix_within encoding n (chars text)
      ≡ c ∷ prefix_within encoding (n - char_units encoding c) (chars rest)
  prefix_within-more n text rest c utf8 step h =
      rw (chars_past_char text rest c utf8 step, le-leb (char_units encoding c) n h) refl

  -- one that does not fit ends it
  pub prefix_within-stop : (n : ℕ) (text rest : List ℕ) (c : ℕ) → IsUtf8 text
      → text ≡ encode_utf8 c ++ rest → n < char_units encoding c
      → prefix_within encoding n (chars text) ≡ []
  prefix_within-stop n text rest c utf8 step h =
      rw (chars_past_char text rest c utf8 step, lt-leb (char_units encoding c) n h) refl

  -- and so does the end of the text
  pub prefix_within-empty : (n : ℕ) (text : List ℕ) → length text ≡ 0
      → prefix_within encoding n (chars text) ≡ []
  prefix_within-empty n text h = rw (nil_from_length text h, chars-nil) refl
