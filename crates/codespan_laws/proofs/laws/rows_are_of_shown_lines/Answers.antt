use Rattle.codespan_output.proofs.DrawnLines.Filled.{rows_of_shown_lines}
use Rattle.codespan_laws.proofs.laws.rows_are_of_shown_lines.Goals as goal

pub returns : goal.returns
returns c = λ config s. rows_of_shown_lines config s
