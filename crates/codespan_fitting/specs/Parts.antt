-- The parts of a text, the cells of those that have to be shown, and the gaps between.
use Rattle.std.specs.Prelude.{ℕ, ◌+◌, Bool, false, not, ◌==◌, nat_lt, if◌then◌else◌}
use Rattle.std.specs.Prelude.{List, [], ◌∷◌, ◌++◌, length, slice_range}
use Rattle.codespan_output.specs.FittedParts.{TextUnit, Part, Needed, Gap, parts_from, unit_bytes}
use Rattle.codespan_core.specs.Labels.{LabelModel, LaneMark}
use Rattle.codespan_output.specs.CharMetrics.{leading_whitespace}
use Rattle.codespan_fitting.specs.Fitting.{spans_of}
use Rattle.codespan_fitting.specs.Walks.{text_units}

-- the parts of a text of which these spans have to be shown
abbrev pub text_parts : ℕ → List ℕ → List (ℕ × ℕ) → List Part
text_parts tab text spans = parts_from spans false [] 0 (text_units tab text)

-- `parts_of` of a line with this text, these labels and lane marks
abbrev pub line_parts : (ℕ → LabelModel → List (ℕ × ℕ)) → ℕ → List ℕ → List LabelModel
    → List LaneMark → List Part
line_parts label_spans tab text labels lane_marks =
    text_parts tab text
    (spans_of label_spans (length text) (leading_whitespace text) labels lane_marks)

-- the cells of the units that have to be shown
abbrev pub needed_cells : List Part → ℕ
needed_cells [] = 0
needed_cells (Needed u ∷ ps) = u.cells + needed_cells ps
needed_cells (Gap after before us ∷ ps) = needed_cells ps

-- the units of these parts
abbrev pub part_units : List Part → List TextUnit
part_units [] = []
part_units (Needed u ∷ ps) = u ∷ part_units ps
part_units (Gap after before us ∷ ps) = us ++ part_units ps

-- the gaps that have units, with the bytes at which they begin, where the first of the parts begins
-- at `at`
abbrev pub gaps_from : ℕ → List Part → List (ℕ × Part)
gaps_from at [] = []
gaps_from at (Needed u ∷ ps) = gaps_from (at + u.bytes) ps
gaps_from at (Gap after before [] ∷ ps) = gaps_from at ps
gaps_from at (Gap after before (u ∷ us) ∷ ps) =
    (at, Gap after before (u ∷ us)) ∷ gaps_from (at + unit_bytes (u ∷ us)) ps

-- what is between two bytes as a gap with its byte, where there are bytes between; a unit that has
-- to be shown is before it, except at the start of the text
abbrev pub gap_between : ℕ → List ℕ → ℕ → ℕ → Bool → List (ℕ × Part)
gap_between tab text start end before =
    if nat_lt start end
    then (start, Gap (not (start == 0)) before (text_units tab (slice_range text start end))) ∷ []
    else []
