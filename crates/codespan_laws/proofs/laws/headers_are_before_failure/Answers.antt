use Rattle.codespan_output.proofs.Outputs.StatedNames.{headers_are_before_failure}
use Rattle.codespan_laws.proofs.laws.headers_are_before_failure.Goals as goal

pub returns : goal.returns
returns g c = λ files d. headers_are_before_failure files d
