use Rattle.codespan_suggestions.proofs.NamedEdits.{errors-name-edits}
use Rattle.codespan_suggestions.proofs.laws.errors_name_edits.Goals as goal

pub returns : goal.returns
returns g c = errors-name-edits
