use Rattle.codespan_output.proofs.Outputs.StatedNames.{output_is_picture}
use Rattle.codespan_laws.proofs.laws.output_is_picture.Goals as goal

pub returns : goal.returns
returns g c = λ files d. output_is_picture files d
