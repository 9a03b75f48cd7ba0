use Rattle.codespan_core.proofs.Std.{refl}
use Rattle.codespan_output.proofs.rows.lanes.shapes.goes_on.Goals as goal

pub returns-in-Unbroken : goal.returns-in-Unbroken
returns-in-Unbroken c = rw c.in-Unbroken.is refl
