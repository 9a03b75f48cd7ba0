use Rattle.codespan_suggestions.proofs.Borders.{borders-are-in-one-column}
use Rattle.codespan_suggestions.proofs.laws.borders_are_in_one_column.Goals as goal

pub returns : goal.returns
returns g c = borders-are-in-one-column
