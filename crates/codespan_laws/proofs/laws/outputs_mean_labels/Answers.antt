use Rattle.codespan_output.proofs.Outputs.RichOutputs.{output_means_labels}
use Rattle.codespan_laws.proofs.laws.outputs_mean_labels.Goals as goal

pub returns : goal.returns
returns g c =
    λ renderer view files d equal has_line can loci are.
    output_means_labels renderer view files d equal has_line can loci are
