use Rattle.codespan_views.proofs.Outputs.HeaderRuns.{cut_before_notes, medium_written}
use Rattle.codespan_views.proofs.Outputs.RendererRuns.{exit_is}
use Rattle.codespan_core.proofs.Std.{arith, common_steps}
use Rattle.codespan_views.proofs.short.ShortDiagnostic.render.Goals as goal

pub returns-in_err-render_headers-clause-renders :
    goal.returns-in_err-render_headers-clause-renders
returns-in_err-render_headers-clause-renders g c =
    grind (arith, common_steps, exit_is, cut_before_notes)

-- medium style is the headers with the notes, and not rich style
pub returns-then-self-clause-renders : goal.returns-then-self-clause-renders
returns-then-self-clause-renders g c = grind (arith, common_steps, medium_written)
