use Rattle.std.proofs.Common.{rules}
use Rattle.codespan_styled.proofs.safe.is_noncharacter.Goals as goal

-- a character outside the first range is one if it is among the last two of its plane
pub returns-else-matches : goal.returns-else-matches
returns-else-matches c = search rules
