use Rattle.codespan_core.proofs.Std.{refl, rules}
use Rattle.codespan_renderer.proofs.RowWriters.{renders}
use Rattle.codespan_renderer.proofs.term.renderer.Renderer.render_header.Goals as goal

pub returns : goal.returns
returns g c =
    renders _ _ _ _ _ c.new-rows.result c.write_header-written.new.w _ _ _ refl
    c.new-rows.ensures.reference c.new-rows.ensures.writer c.write_header-written.ensures
    c.outcome.ensures.same c.outcome.ensures.io (search rules) (search rules)
