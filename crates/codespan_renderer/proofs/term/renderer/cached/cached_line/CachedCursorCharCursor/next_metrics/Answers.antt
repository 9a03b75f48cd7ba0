use Rattle.codespan_renderer.proofs.LabelCursorSteps.{cursor-next, cursor-next_returned}
use Rattle.codespan_core.proofs.Std.{arith, common_steps}
use Rattle.codespan_renderer.proofs.term.renderer.cached.cached_line.CachedCursorCharCursor.next_metrics.Goals as goal

pub invariant_of-self : goal.invariant_of-self
invariant_of-self c = grind (arith, common_steps, cursor-next)

pub returns-clause-returned : goal.returns-clause-returned
returns-clause-returned c =
    cursor-next_returned _ c.args.self.now.characters c.next.new.self c.next.result
    c.next.ensures.steps c.args.self.now.state
