use Rattle.codespan_output.proofs.WiderRadius.Parts as parts
use Rattle.codespan_laws.proofs.laws.wider_radius_has_more_cells.Goals as goal

pub returns : goal.returns
returns c = λ label_spans tab line. parts.wider_radius_has_more_cells label_spans tab line
