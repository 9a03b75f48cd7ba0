use Rattle.codespan_output.proofs.Outputs.RowEquations.{gutter_spaces}
use Rattle.codespan_output.proofs.rows.parts.outer_gutter.Goals as goal

pub returns : goal.returns
returns g c = rw (gutter_spaces c.args.padding) c.write_spaces.ensures
