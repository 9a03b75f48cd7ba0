use Rattle.codespan_core.proofs.Std.{rules}
use Rattle.codespan_renderer.proofs.ThroughReference.{puts_through}
use Rattle.codespan_renderer.proofs.term.renderer.write_style.RendererWriteStyle.put.Goals as goal

pub returns-clause-took : goal.returns-clause-took
returns-clause-took g c = puts_through _ _ _ _ _ (search rules)
