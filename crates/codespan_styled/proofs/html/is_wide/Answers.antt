use Rattle.std.proofs.Common.{ap}
use Rattle.std.specs.Prelude.{nat_lt}
use Rattle.codespan_styled.proofs.html.is_wide.Goals as goal

pub returns : goal.returns
returns c = ap (nat_lt 1) c.cells.ensures.value
