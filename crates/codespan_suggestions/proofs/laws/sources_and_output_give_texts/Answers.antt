use Rattle.codespan_suggestions.proofs.ReadOutputs.{sources-and-output-give-texts}
use Rattle.codespan_suggestions.proofs.laws.sources_and_output_give_texts.Goals as goal

pub returns : goal.returns
returns g c = sources-and-output-give-texts
