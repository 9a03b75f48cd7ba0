use Rattle.codespan_output.proofs.Outputs.RichOutputs as meaning
use Rattle.codespan_laws.proofs.laws.carets_are_cells.Goals as goal

pub returns : goal.returns
returns c = meaning.carets_are_cells
