-- The names of display styles and severities.
use Rattle.std.specs.Prelude.{ℕ, List, [], ◌∷◌, find, Option, Some, None, codes}
use Rattle.std.specs.Prelude.{if◌then◌else◌}
use Rattle.std.specs.Str.{bytes_eq}
use Rattle.codespan_core.specs.declared.diagnostic.Severity.{Severity}
use Rattle.codespan_core.specs.declared.diagnostic.Severity.TheVariants.{Bug, Error, Warning, Note}
use Rattle.codespan_core.specs.declared.diagnostic.Severity.TheVariants.{Help}
use Rattle.codespan_core.specs.Diagnostics.{severity_name}
use Rattle.codespan_core.specs.declared.term.config.DisplayStyle.{DisplayStyle}
use Rattle.codespan_core.specs.declared.term.config.DisplayStyle.TheVariants.{Rich, Medium, Short}

-- the display style with this name
unfoldable pub display_style_named : List ℕ → Option DisplayStyle
display_style_named text =
    if bytes_eq text (codes "rich") then Some Rich
    else if bytes_eq text (codes "medium") then Some Medium
    else if bytes_eq text (codes "short") then Some Short
    else None

-- the severity with this name
unfoldable pub severity_named : List ℕ → Option Severity
severity_named text =
    find (λ severity. bytes_eq text (severity_name severity))
    (Bug ∷ Error ∷ Warning ∷ Note ∷ Help ∷ [])
