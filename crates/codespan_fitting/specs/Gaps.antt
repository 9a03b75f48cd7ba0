-- The gaps of a line.
use Rattle.std.specs.Prelude.{ℕ, ◌+◌, List, [], ◌∷◌, map, All, slice_range}
use Rattle.std.specs.Str.{IsCharBoundary}
use Rattle.codespan_output.specs.FittedParts.{Part, part_pieces, piece_cells}
use Rattle.codespan_output.specs.FittedParts as part
use Rattle.codespan_fitting.specs.declared.gap.Gap.{Gap}
use Rattle.codespan_fitting.specs.Walks.{text_units}

-- the gap is between whole characters of the text
pub record IsIn (text : List ℕ) (gap : Gap) : Type 0 where
  pub start : IsCharBoundary text gap.start
  pub end : IsCharBoundary text gap.end

-- all of these gaps are
abbrev pub AreIn : List ℕ → List Gap → Type 0
AreIn text gaps = All (IsIn text) gaps

-- the gap as a part of its line
abbrev pub gap_part : ℕ → List ℕ → Gap → Part
gap_part tab text gap =
    part.Gap gap.is_after_needed gap.is_before_needed
    (text_units tab (slice_range text gap.start gap.end))

-- the cells of gaps at a radius
abbrev pub gap_cells : ℕ → ℕ → List ℕ → List Gap → ℕ
gap_cells radius tab text [] = 0
gap_cells radius tab text (gap ∷ gaps) =
    piece_cells (part_pieces radius (gap_part tab text gap)) + gap_cells radius tab text gaps

-- the gaps as parts, with the bytes at which they begin
abbrev pub placed_gaps : ℕ → List ℕ → List Gap → List (ℕ × Part)
placed_gaps tab text gaps = map (λ (gap : Gap). (gap.start, gap_part tab text gap)) gaps
