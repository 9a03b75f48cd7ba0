use Rattle.codespan_styled.proofs.SvgColumns.{characters-in-columns}
use Rattle.codespan_styled.proofs.svg.laws.characters_are_in_their_columns.Goals as goal

pub returns : goal.returns
returns c = characters-in-columns
