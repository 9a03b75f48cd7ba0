use Rattle.codespan_core.proofs.Std.{refl}
use Rattle.codespan_core.specs.declared.diagnostic.Severity.{Severity}
use Rattle.codespan_core.specs.declared.diagnostic.Severity.TheVariants.{Help, Note, Warning, Error}
use Rattle.codespan_core.specs.declared.diagnostic.Severity.TheVariants.{Bug}
use Rattle.codespan_core.proofs.laws.severities_agree.Goals as goal

-- what holds of the five severities holds of each severity
each : (P : Severity → Type 0) → P Help → P Note → P Warning → P Error → P Bug
    → (x : Severity)
    → P x
each P help note warning error bug Help = help
each P help note warning error bug Note = note
each P help note warning error bug Warning = warning
each P help note warning error bug Error = error
each P help note warning error bug Bug = bug

-- the derived order is that of the ranks
pub returns-clause-order : goal.returns-clause-order
returns-clause-order c =
    each _
    (each _ refl refl refl refl refl)
    (each _ refl refl refl refl refl)
    (each _ refl refl refl refl refl)
    (each _ refl refl refl refl refl)
    (each _ refl refl refl refl refl)
