use Rattle.std.proofs.Common.{refl}
use Rattle.codespan_styled.proofs.svg.position.CellPosition.after.Goals as goal

-- a row begins at column 0
pub returns-then-is_newline-clause-position : goal.returns-then-is_newline-clause-position
returns-then-is_newline-clause-position c = rw (← c.if-is_newline.ensures) refl
