-- What is left out of a gap, in bytes.
use Rattle.std.specs.Prelude.{ℕ, ◌+◌, nat_lt, if◌then◌else◌, List, [], ◌∷◌}
use Rattle.codespan_output.specs.FittedParts.{Piece, Kept, Dots, unit_bytes}

-- the ranges of bytes for which dots stand in these pieces, the first of which starts at this byte
abbrev pub dot_ranges : ℕ → List Piece → List (ℕ × ℕ)
dot_ranges at [] = []
dot_ranges at (Kept u ∷ ps) = dot_ranges (at + u.bytes) ps
dot_ranges at (Dots us ∷ ps) =
    (at, at + unit_bytes us) ∷ dot_ranges (at + unit_bytes us) ps

-- the range that is left out, where there is one
abbrev pub left_out_ranges : ℕ → ℕ → List (ℕ × ℕ)
left_out_ranges start end = if nat_lt start end then (start, end) ∷ [] else []
