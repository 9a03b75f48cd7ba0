use Rattle.codespan_output.proofs.DrawnLines.Padding as padding
use Rattle.codespan_laws.proofs.laws.padding_fits.Goals as goal

pub returns : goal.returns
returns c = λ config ss. padding.padding_fits config ss
