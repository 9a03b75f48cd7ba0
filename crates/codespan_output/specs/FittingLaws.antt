-- The laws of lines that fit a width.
use Rattle.std.specs.Prelude.{ℕ, ◌≤◌, List}
use Rattle.codespan_core.specs.Labels.{LabelModel}
use Rattle.codespan_output.specs.FittedParts.{parts_of, piece_cells, pieces_of}
use Rattle.codespan_output.specs.Rows.{Line}

-- at a wider radius a line never has fewer cells
abbrev pub WiderRadiusHasMoreCells : (ℕ → LabelModel → List (ℕ × ℕ)) → ℕ → Line → Type 0
WiderRadiusHasMoreCells label_spans tab line = (r s : ℕ) → r ≤ s
    → piece_cells (pieces_of r (parts_of label_spans tab line))
    ≤ piece_cells (pieces_of s (parts_of label_spans tab line))
