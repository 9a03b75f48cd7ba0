use Rattle.codespan_core.proofs.Std.{◌≡◌, Err, append-nil, ap, ◌∙◌, slice_get}
use Rattle.codespan_core.proofs.Std.{err_from_is_err_and, arith, common_steps}
use Rattle.std.specs.Slice.Iter.{iter_rest}
use Rattle.codespan_views.proofs.Lines.FilledNumbers.{next-number}
use Rattle.codespan_views.proofs.Errors.LookupRuns.{run_failed}
use Rattle.codespan_views.proofs.snippet.Snippet.render_filled.Given.{Over}
use Rattle.codespan_views.proofs.snippet.Snippet.render_filled.Goals.{After-copied-number}
use Rattle.codespan_views.proofs.snippet.Snippet.render_filled.Goals as goal

-- the number is the first one that is left
number-is : (g : Over) (c : After-copied-number g)
    → c.copied-number.result ≡ slice_get (iter_rest c.args.buffers.now.numbers) 0
number-is g c = grind (arith, common_steps, next-number)

pub returns-in_err-line-clause-renders : goal.returns-in_err-line-clause-renders
returns-in_err-line-clause-renders g c =
    let same = number-is g (goal.at.returns-in_err-line-clause-renders g c).After-copied-number in
    let p = err_from_is_err_and c.from_residual.result c.from_residual.ensures.1 in
    let failed = rw same at c.in_err-line.ensures.failed in
    rw (p.1 ∙ ap Err p.2)
    (record { rendered = run_failed (λ known. rw append-nil (failed known)) })
