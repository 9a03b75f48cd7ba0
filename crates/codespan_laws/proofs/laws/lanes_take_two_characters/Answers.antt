use Rattle.codespan_output.specs.Lanes.{row_crossing, row_shape}
use Rattle.codespan_output.specs.RowParts.{inner_gutter}
use Rattle.codespan_laws.proofs.LaneWidths.{row_length-lanes_in}
use Rattle.codespan_laws.proofs.laws.lanes_take_two_characters.Goals as goal

pub returns : goal.returns
unfolding inner_gutter
returns c =
    λ context leading row lanes. row_length-lanes_in context (row_crossing row)
    (row_shape context.layout leading row) lanes
