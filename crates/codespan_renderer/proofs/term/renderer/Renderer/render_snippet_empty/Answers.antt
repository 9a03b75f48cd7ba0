use Rattle.codespan_core.proofs.Std.{◌++◌, ap, rules}
use Rattle.codespan_core.specs.Streams.{newline}
use Rattle.codespan_output.specs.Arguments.{lanes_of}
use Rattle.codespan_output.specs.Rows.{RowContext, EmptyRow}
use Rattle.codespan_output.specs.RowStreams.{stream_of}
use Rattle.codespan_renderer.proofs.RowWriters.{renders}
use Rattle.codespan_renderer.proofs.term.renderer.Renderer.render_snippet_empty.Goals as goal

pub returns : goal.returns
returns g c =
    renders _ _ _ _ _ c.new-rows.result c.write_snippet_empty-written.new.w _ _ _
    (ap (λ (x : RowContext). stream_of x
    (EmptyRow (lanes_of c.args.num_multi_labels c.args.multi_labels.now)) ++ newline)
    c.context-context.ensures)
    c.new-rows.ensures.reference c.new-rows.ensures.writer c.write_snippet_empty-written.ensures
    c.outcome.ensures.same c.outcome.ensures.io (search rules) (search rules)
