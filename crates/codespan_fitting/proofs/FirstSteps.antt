-- For `keep_first`: a step over one character.
use Rattle.codespan_core.proofs.Std.{◌≡◌, ℕ, ◌+◌, ◌-◌, ◌<◌, ◌≤◌, List, []}
use Rattle.codespan_core.proofs.Std.{◌∷◌, ◌++◌, length, refl, arith, le-leb, lt-leb}
use Rattle.codespan_core.proofs.Std.{len_utf8, IsUtf8, encode_utf8, chars}
use Rattle.std.proofs.lemmas.Str.{chars_past_char, chars-nil}
use Rattle.codespan_output.specs.FittedParts.{cells_at_most}
use Rattle.codespan_fitting.specs.Walks.{bytes_within, cells_within}

-- the character is among the first ones
pub within-more : (tab left cells c : ℕ) (rest next : List ℕ) → IsUtf8 rest
    → rest ≡ encode_utf8 c ++ next → cells ≡ cells_at_most tab c → cells ≤ left
    → (bytes_within tab left (chars rest)
    ≡ len_utf8 c + bytes_within tab (left - cells) (chars next))
    × (cells_within tab left (chars rest) ≡ cells + cells_within tab (left - cells) (chars next))
within-more tab left cells c rest next u e is h =
    rw (
      chars_past_char rest next c u e,
      is,
      le-leb (cells_at_most tab c) left (omega (arith, is, h)),
    )
    (refl, refl)

-- it is not
pub within-stop : (tab left cells c : ℕ) (rest next : List ℕ) → IsUtf8 rest
    → rest ≡ encode_utf8 c ++ next → cells ≡ cells_at_most tab c → left < cells
    → (bytes_within tab left (chars rest) ≡ 0) × (cells_within tab left (chars rest) ≡ 0)
within-stop tab left cells c rest next u e is h =
    rw (chars_past_char rest next c u e, lt-leb (cells_at_most tab c) left (omega (arith, is, h)))
    (refl, refl)

-- there is none
pub within-end : (tab left : ℕ) (rest : List ℕ) → length rest ≡ 0
    → (bytes_within tab left (chars rest) ≡ 0) × (cells_within tab left (chars rest) ≡ 0)
within-end tab left [] e = rw chars-nil (refl, refl)
within-end tab left (b ∷ bs) e = absurd (omega arith)
