use Rattle.codespan_output.proofs.DrawnLines.RowBounds.{source_rows_few}
use Rattle.codespan_laws.proofs.laws.source_rows_are_few.Goals as goal

pub returns : goal.returns
returns c = λ config locus followed s. source_rows_few config locus followed s
