use Rattle.codespan_core.proofs.Std.{err_from_is_err_and}
use Rattle.codespan_views.proofs.Errors.LookupRuns.{run_out_of_memory}
use Rattle.codespan_views.proofs.snippet.Snippet.render_break.Goals as goal

pub returns-in_err-fill_lane_marks-clause-renders :
    goal.returns-in_err-fill_lane_marks-clause-renders
returns-in_err-fill_lane_marks-clause-renders g c =
    let p = err_from_is_err_and c.from_residual.result c.from_residual.ensures.1 in
    rw p.1 (record { rendered = run_out_of_memory p.2 c.in_err-fill_lane_marks.ensures.failed })
