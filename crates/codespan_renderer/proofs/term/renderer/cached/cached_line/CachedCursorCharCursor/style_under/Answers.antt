use Rattle.codespan_renderer.proofs.LabelCursorSteps.{cursor-passed}
use Rattle.codespan_core.proofs.Std.{arith, common_steps}
use Rattle.codespan_renderer.proofs.term.renderer.cached.cached_line.CachedCursorCharCursor.style_under.Goals as goal

pub invariant_of-self : goal.invariant_of-self
invariant_of-self c = grind (arith, common_steps, cursor-passed)
