use Rattle.codespan_suggestions.proofs.SameOutputs.{same-output-makes-same-texts}
use Rattle.codespan_suggestions.proofs.laws.same_output_makes_same_texts.Goals as goal

pub returns : goal.returns
returns g c = same-output-makes-same-texts
