use Rattle.codespan_output.proofs.DrawnLines.Filled.{rows_of_shown_lines}
use Rattle.codespan_output.proofs.DrawnLines.Breaks as breaks
use Rattle.codespan_laws.proofs.laws.breaks_replace_lines.Goals as goal

pub returns : goal.returns
returns c =
    λ config locus followed s. breaks.breaks_replace_lines config locus followed s
    (rows_of_shown_lines config s)
