use Rattle.codespan_core.proofs.Std.{rules}
use Rattle.codespan_renderer.proofs.ThroughReference.{writes_through}
use Rattle.codespan_renderer.proofs.term.renderer.write_style.RendererWriteStyle.set_source_border.Goals as goal

pub returns : goal.returns
returns g c = writes_through _ _ _ _ _ (search rules)
