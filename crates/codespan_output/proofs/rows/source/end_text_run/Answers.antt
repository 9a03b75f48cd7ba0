use Rattle.codespan_core.proofs.Chains.{failed-before, failed, writes-last}
use Rattle.codespan_output.proofs.rows.source.end_text_run.Goals as goal

pub returns-in_err-put_all : goal.returns-in_err-put_all
returns-in_err-put_all g c =
    failed _ _ _ _ _ c.from_residual.ensures.1 (failed-before _ c.in_err-put_all.ensures)

pub returns : goal.returns
returns g c = writes-last _ _ _ _ _ c.in_ok-put_all.ensures c.change_style.ensures
