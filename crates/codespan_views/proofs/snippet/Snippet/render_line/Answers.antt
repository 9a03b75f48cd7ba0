use Rattle.codespan_core.proofs.Std.{◌∙◌, ap, arith, common_steps, err_from_is_err_and, refl}
use Rattle.codespan_output.specs.Private.LineViews.{context_view, line_view}
use Rattle.codespan_renderer.proofs.RowWriters.{writes_as}
use Rattle.codespan_views.proofs.Lines.Fitted.{fitted-rows, fitted-starts}
use Rattle.codespan_views.proofs.Errors.LookupRuns.{run_as, run_of_writes}
use Rattle.codespan_views.proofs.Errors.LookupRuns.{run_out_of_memory}
use Rattle.codespan_views.proofs.snippet.Snippet.render_line.Goals as goal

pub returns-in_err-refill-clause-renders : goal.returns-in_err-refill-clause-renders
returns-in_err-refill-clause-renders g c =
    let p = err_from_is_err_and c.from_residual.result c.from_residual.ensures.1 in
    rw p.1 (record { rendered = run_out_of_memory p.2 c.in_err-refill.ensures.failed })

pub returns-in_err-cached-clause-renders : goal.returns-in_err-cached-clause-renders
returns-in_err-cached-clause-renders g c =
    let p = err_from_is_err_and c.from_residual-in_err-cached.result
    c.from_residual-in_err-cached.ensures.1 in
    rw p.1 (record { rendered = run_out_of_memory p.2 c.in_err-cached.ensures.failed })

pub returns-in_err-line-clause-renders : goal.returns-in_err-line-clause-renders
returns-in_err-line-clause-renders g c =
    let p = err_from_is_err_and c.from_residual-in_err-line.result
    c.from_residual-in_err-line.ensures.1 in
    rw p.1 (record { rendered = run_out_of_memory p.2 c.in_err-line.ensures.failed })

pub cache_line-requires : goal.cache_line-requires
cache_line-requires g c = record {
  ordered = fitted-starts c.args.self.now.max_width (context_view c.args.self.now.context) _ _
      c.in_ok-line.ensures.fitted (grind (arith, common_steps));
}

pub returns-clause-renders : goal.returns-clause-renders
returns-clause-renders g c = record {
  rendered =
      run_as refl
      (fitted-rows c.args.self.now.max_width (context_view c.args.self.now.context) _ _
      (ap line_view c.in_ok-cached.ensures.line ∙ c.in_ok-line.ensures.fitted)
      (grind (arith, common_steps)) c.requires.fittable)
      (run_of_writes c.outcome.result
      (writes_as _ _ _ _ _ c.outcome.ensures.same c.write_line-written.ensures)
      c.outcome.ensures.io);
}
