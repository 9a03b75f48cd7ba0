-- For the clauses of `refill_gaps`: the pieces of parts, by the gaps that have units.
use Rattle.codespan_core.proofs.Std.{◌≡◌, ℕ, ◌+◌, Bool, true, false}
use Rattle.codespan_core.proofs.Std.{List, [], ◌∷◌, ◌++◌}
use Rattle.codespan_core.proofs.Std.{refl, ap, ◌∙◌, arith}
use Rattle.codespan_core.proofs.Std.{IsPermutation}
use Rattle.std.proofs.lemmas.List.Sorted.{list_any-IsPermutation}
use Rattle.codespan_output.specs.FittedParts.{TextUnit, Part, Needed, Gap}
use Rattle.codespan_output.specs.FittedParts.{is_needed, part_pieces, parts_from}
use Rattle.codespan_output.specs.FittedParts.{piece_cells, pieces_of, unit_bytes}
use Rattle.codespan_fitting.specs.Parts.{gaps_from, needed_cells}
use Rattle.codespan_output.proofs.WiderRadius.Parts.{piece_cells-append}
use Rattle.codespan_fitting.proofs.NeededUnits.{has_byte}

-- ---- spans in another order

pub needed-permuted : (ss ts : List (ℕ × ℕ)) (p q : ℕ) → IsPermutation ss ts
    → is_needed ss p q ≡ is_needed ts p q
needed-permuted ss ts p q h = list_any-IsPermutation (λ (s : ℕ × ℕ). has_byte s p q) ss ts h

-- they make the same parts
pub parts-permuted : (ss ts : List (ℕ × ℕ)) → IsPermutation ss ts → (after : Bool)
    → (gap : List TextUnit) → (at : ℕ) (us : List TextUnit)
    → parts_from ss after gap at us ≡ parts_from ts after gap at us
parts-permuted ss ts h after gap at [] = refl
parts-permuted ss ts h after gap at (u ∷ us) =
    by_test (parts-permuted ss ts h true [] (at + u.bytes) us)
    (parts-permuted ss ts h after (gap ++ u ∷ []) (at + u.bytes) us)
    (is_needed ts at (at + u.bytes)) refl
  where
    by_test : parts_from ss true [] (at + u.bytes) us ≡ parts_from ts true [] (at + u.bytes) us
        → parts_from ss after (gap ++ u ∷ []) (at + u.bytes) us
        ≡ parts_from ts after (gap ++ u ∷ []) (at + u.bytes) us
        → (b : Bool) → is_needed ts at (at + u.bytes) ≡ b
        → parts_from ss after gap at (u ∷ us) ≡ parts_from ts after gap at (u ∷ us)
    by_test more rest true is =
        let same = needed-permuted ss ts at (at + u.bytes) h ∙ is in
        rw (same, is) (ap (λ ps. Gap after true gap ∷ Needed u ∷ ps) more)
    by_test more rest false is =
        let same = needed-permuted ss ts at (at + u.bytes) h ∙ is in rw (same, is) rest

-- ---- cells

-- the cells of gaps at a radius
abbrev pub placed_cells : ℕ → List (ℕ × Part) → ℕ
placed_cells radius [] = 0
placed_cells radius (g ∷ gs) = piece_cells (part_pieces radius g.1) + placed_cells radius gs

-- a gap without units has no piece
pub empty-gap : (radius : ℕ) (after before : Bool) → part_pieces radius (Gap after before []) ≡ []
empty-gap radius true true = refl
empty-gap radius true false = refl
empty-gap radius false true = refl
empty-gap radius false false = refl

-- the cells of the pieces are those of what has to be shown and of the gaps
pub parts-cells : (radius at : ℕ) (ps : List Part)
    → piece_cells (pieces_of radius ps)
    ≡ needed_cells ps + placed_cells radius (gaps_from at ps)
parts-cells radius at [] = omega arith
parts-cells radius at (Needed u ∷ ps) = omega (arith, parts-cells radius (at + u.bytes) ps)
parts-cells radius at (Gap after before [] ∷ ps) =
    ap (λ qs. piece_cells (qs ++ pieces_of radius ps)) (empty-gap radius after before)
    ∙ parts-cells radius at ps
parts-cells radius at (Gap after before (u ∷ us) ∷ ps) =
    piece_cells-append (part_pieces radius (Gap after before (u ∷ us))) (pieces_of radius ps)
    ∙ omega (arith, parts-cells radius (at + unit_bytes (u ∷ us)) ps)
