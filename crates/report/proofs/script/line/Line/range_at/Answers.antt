use Rattle.codespan_core.proofs.Std.{refl}
use Rattle.report.proofs.script.line.Line.range_at.Goals as goal

-- the field ends after all its bytes
pub returns : goal.returns
returns c = refl
