-- For `WiderRadiusHasMoreCells`: the cells of a line at two radii.
use Rattle.codespan_core.proofs.Std.{◌≡◌, ℕ, ◌+◌, ◌≤◌, Bool, true, false, List, []}
use Rattle.codespan_core.proofs.Std.{◌∷◌, ◌++◌, sym, subst, arith, ⊎_elim}
use Rattle.codespan_core.proofs.Std.{append_assoc, cases_Bool, chars}
use Rattle.std.specs.Prelude.{⊤}
use Rattle.codespan_output.specs.FittedParts.{TextUnit, Part, Needed, Gap, Piece, Kept, Dots}
use Rattle.codespan_output.specs.FittedParts.{is_needed, part_pieces, parts_from, piece_cells}
use Rattle.codespan_output.specs.FittedParts.{needed_spans, parts_of, pieces_of, units_of}
use Rattle.codespan_output.specs.FittingLaws.{WiderRadiusHasMoreCells}
use Rattle.codespan_output.specs.Rows.{Line}
use Rattle.codespan_core.specs.Labels.{LabelModel}
use Rattle.codespan_output.proofs.WiderRadius.Gaps.{RestHasCells, gap-wider, rest-have, rest-parts}
use Rattle.codespan_output.proofs.WiderRadius.Gaps.{units-rest}

-- in each gap only the first unit may be without cells
abbrev pub GapsHaveCells : List Part → Type 0
GapsHaveCells [] = ⊤
GapsHaveCells (Needed u ∷ ps) = GapsHaveCells ps
GapsHaveCells (Gap after before us ∷ ps) = RestHasCells us × GapsHaveCells ps

-- so it is in the parts of a line
pub parts-have : (spans : List (ℕ × ℕ)) (after : Bool) (gap : List TextUnit) (start : ℕ)
    (us : List TextUnit) → RestHasCells (gap ++ us)
    → GapsHaveCells (parts_from spans after gap start us)
parts-have spans after gap start [] h = ((rest-parts gap [] h).0, tt)
parts-have spans after gap start (u ∷ us) h =
    let parts = rest-parts gap (u ∷ us) h in
    ⊎_elim
    (λ needed.
    rw needed
    (parts.0, parts-have spans true [] (start + u.bytes) us (rest-have us parts.1)))
    (λ not_needed.
    rw not_needed
    (parts-have spans after (gap ++ u ∷ []) (start + u.bytes) us
    (subst RestHasCells (sym (append_assoc gap (u ∷ []) us)) h)))
    (cases_Bool (is_needed spans start (start + u.bytes)))

pub piece_cells-append : (ps qs : List Piece)
    → piece_cells (ps ++ qs) ≡ piece_cells ps + piece_cells qs
piece_cells-append [] qs = omega arith
piece_cells-append (Kept u ∷ ps) qs = omega (arith, piece_cells-append ps qs)
piece_cells-append (Dots us ∷ ps) qs = omega (arith, piece_cells-append ps qs)

pub pieces-wider : (r s : ℕ) (parts : List Part) → r ≤ s → GapsHaveCells parts
    → piece_cells (pieces_of r parts) ≤ piece_cells (pieces_of s parts)
pieces-wider r s [] h have = omega arith
pieces-wider r s (Needed u ∷ ps) h have = omega (arith, pieces-wider r s ps h have)
pieces-wider r s (Gap after before us ∷ ps) h have =
    omega (
      arith,
      gap-wider r s after before us h have.0,
      pieces-wider r s ps h have.1,
      piece_cells-append (part_pieces r (Gap after before us)) (pieces_of r ps),
      piece_cells-append (part_pieces s (Gap after before us)) (pieces_of s ps),
    )

-- at a wider radius a line never has fewer cells
pub wider_radius_has_more_cells : (label_spans : ℕ → LabelModel → List (ℕ × ℕ)) (tab : ℕ)
    (line : Line) → WiderRadiusHasMoreCells label_spans tab line
wider_radius_has_more_cells label_spans tab line r s h =
    pieces-wider r s (parts_of label_spans tab line) h
    (parts-have (needed_spans label_spans line) false [] 0 (units_of tab (chars line.text))
    (units-rest tab (chars line.text)))
