use Rattle.codespan_suggestions.proofs.ShownRows.{shown-is-made}
use Rattle.codespan_suggestions.proofs.laws.shown_is_made.Goals as goal

pub returns : goal.returns
returns c = shown-is-made
