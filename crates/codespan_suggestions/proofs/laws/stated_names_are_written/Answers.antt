use Rattle.codespan_suggestions.proofs.StatedNames.{stated-names}
use Rattle.codespan_suggestions.proofs.laws.stated_names_are_written.Goals as goal

pub returns : goal.returns
returns g c = stated-names
