use Rattle.codespan_output.proofs.Outputs.Loci.{stated_are_loci}
use Rattle.codespan_laws.proofs.laws.stated_loci_are_loci.Goals as goal

pub returns : goal.returns
returns g c = λ files d style. stated_are_loci files d style
