use Rattle.codespan_core.proofs.Std.{refl}
use Rattle.program_io.specs.Names.{severity_named}
use Rattle.program_io.proofs.names.parse_severity.Goals as goal

-- the severity of the word `help`
pub returns-in-help : goal.returns-in-help
unfolding severity_named
returns-in-help c = rw c.in-help.is refl
