use Rattle.codespan_core.proofs.Std.{arith}
use Rattle.codespan_output.proofs.rows.primary_cover.PrimaryCover.end.Goals as goal

-- no character of a text begins at the greatest index
pub returns-in-Some : goal.returns-in-Some
returns-in-Some c = λ metrics from within some. absurd (omega arith)
