-- For `find_gaps`, and for what is computed from its gaps: the pieces of a line by its gaps.
use Rattle.codespan_core.proofs.Std.{◌≡◌, ℕ, ◌+◌, ◌<◌, false, List, [], ◌∷◌}
use Rattle.codespan_core.proofs.Std.{refl, ap, sym, ◌∙◌, arith}
use Rattle.codespan_core.proofs.Std.{nat_le, lt-leb, IsPermutation}
use Rattle.codespan_core.proofs.Std.{nat_tests}
use Rattle.codespan_output.specs.FittedParts.{Part, fits_at, part_pieces, piece_cells}
use Rattle.codespan_output.specs.FittedParts.{pieces_of}
use Rattle.codespan_fitting.specs.declared.gap.Gap.{Gap}
use Rattle.codespan_fitting.specs.Gaps.{gap_cells, gap_part, placed_gaps}
use Rattle.codespan_fitting.specs.Parts.{gaps_from, needed_cells, text_parts}
use Rattle.codespan_fitting.specs.Walks.{text_units}
use Rattle.codespan_fitting.proofs.PartSums.{parts-cells, parts-permuted, placed_cells}

-- ---- parts

-- spans in another order make the same parts
pub text-permuted : (tab : ℕ) (text : List ℕ) (ss ts : List (ℕ × ℕ)) → IsPermutation ss ts
    → text_parts tab text ss ≡ text_parts tab text ts
text-permuted tab text ss ts h = parts-permuted ss ts h false [] 0 (text_units tab text)

-- ---- the pieces of parts that have these gaps

module _ (tab : ℕ) (text : List ℕ) where
  gap-cells : (radius : ℕ) (gaps : List Gap)
      → gap_cells radius tab text gaps ≡ placed_cells radius (placed_gaps tab text gaps)
  gap-cells radius [] = refl
  gap-cells radius (g ∷ gs) =
      ap (λ n. piece_cells (part_pieces radius (gap_part tab text g)) + n) (gap-cells radius gs)

  module _ (parts : List Part) (gaps : List Gap)
      (are : placed_gaps tab text gaps ≡ gaps_from 0 parts) where
    -- their cells are those that have to be shown and those of the gaps
    pub line-cells : (radius : ℕ)
        → piece_cells (pieces_of radius parts)
        ≡ needed_cells parts + gap_cells radius tab text gaps
    line-cells radius =
        parts-cells radius 0 parts
        ∙ ap (λ n. needed_cells parts + n)
        (ap (placed_cells radius) (sym are) ∙ sym (gap-cells radius gaps))

    -- they fit where the gaps have at most the cells that are left for them
    pub line-fits : (left rest radius : ℕ) → rest + needed_cells parts ≡ left
        → fits_at left parts radius ≡ nat_le (gap_cells radius tab text gaps) rest
    line-fits left rest radius is =
        let cells = line-cells radius in grind (arith, nat_tests)

    -- none are left: they do not fit
    pub line-past : (left radius : ℕ) → left < needed_cells parts
        → fits_at left parts radius ≡ false
    line-past left radius more =
        lt-leb (piece_cells (pieces_of radius parts)) left (omega (arith, line-cells radius, more))
