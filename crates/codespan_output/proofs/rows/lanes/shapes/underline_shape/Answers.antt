use Rattle.codespan_core.proofs.Std.{refl, lt-ltb, ne_eqb}
use Rattle.codespan_output.proofs.rows.lanes.shapes.underline_shape.Goals as goal

-- left of the corner a label that ends on the line shows nothing
pub returns-in-Bottom-2 : goal.returns-in-Bottom-2
returns-in-Bottom-2 c =
    rw (
      c.in-Bottom-2.is,
      ne_eqb c.args.lane c.args.corner.0 c.if-lane-corner_lane-3.false,
      lt-ltb c.args.lane c.args.corner.0 c.if-lane-corner_lane-4.true,
    )
    refl
