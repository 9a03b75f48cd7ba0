use Rattle.codespan_core.proofs.Std.{arith}
use Rattle.codespan_fitting.proofs.CellSteps.{cells_at_most-printable}
use Rattle.codespan_fitting.proofs.measure.cells_at_most.Goals as goal

pub returns-then-matches-clause-value : goal.returns-then-matches-clause-value
returns-then-matches-clause-value c = grind (arith, cells_at_most-printable)
