use Rattle.codespan_core.proofs.Std.{err_from_is_err_and, arith, common_steps}
use Rattle.codespan_core.proofs.Chains.{failed-before, writes-last}
use Rattle.codespan_renderer.proofs.RowWriters.{writes_as}
use Rattle.codespan_views.proofs.snippet.Snippet.render_first_rows.Goals as goal

pub returns-in_err-outcome : goal.returns-in_err-outcome
returns-in_err-outcome g c =
    grind (arith, common_steps, err_from_is_err_and, failed-before, writes_as)

pub returns : goal.returns
returns g c = record {
  writes = writes-last _ _ _ _ _
      (writes_as _ _ _ _ _ c.in_ok-outcome.ensures.same c.write_snippet_start-written.ensures)
      c.render_empty_row.ensures.writes;
  io = c.render_empty_row.ensures.io;
}
