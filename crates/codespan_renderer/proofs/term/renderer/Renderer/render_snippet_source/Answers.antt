use Rattle.codespan_core.proofs.Std.{rules}
use Rattle.codespan_renderer.proofs.RowWriters.{renders, same_rows}
use Rattle.codespan_renderer.proofs.term.renderer.Renderer.render_snippet_source.Goals as goal

pub returns : goal.returns
returns g c =
    renders _ _ _ _ _ c.new-rows.result c.write_line-written.new.w _ _ _
    (same_rows _ _ _ _ c.context-context.ensures c.new-line.ensures.line)
    c.new-rows.ensures.reference c.new-rows.ensures.writer c.write_line-written.ensures
    c.outcome.ensures.same c.outcome.ensures.io (search rules) (search rules)
