use Rattle.codespan_styled.specs.Html.{html_run}
use Rattle.codespan_styled.proofs.Appending.{run-more, run-end}
use Rattle.codespan_styled.proofs.html.push_runs.Goals as goal

pub loop-run-preserved : goal.loop-run-preserved
loop-run-preserved c =
    run-more html_run c.args.runs.now c.loop-run.run-index _ _ _ _ c.loop-run-test.true
    c.run-item.is c.in_ok-push_run.ensures c.loop-run.invariant

pub returns : goal.returns
returns c =
    run-end html_run c.args.runs.now c.loop-run.run-index _ _ c.loop-run-test.false
    c.loop-run.invariant
