use Rattle.codespan_output.specs.{label_message}
use Rattle.codespan_core.proofs.Chains.{written-then, failed-then, failed-before, failed}
use Rattle.codespan_core.proofs.Chains.{writes-last}
use Rattle.codespan_output.proofs.rows.carets.write_message.Goals as goal

pub returns-in_err-put_mark : goal.returns-in_err-put_mark
unfolding label_message
returns-in_err-put_mark g c =
    failed _ _ _ _ _ c.from_residual.ensures.1
    (failed-before _ (failed-before _ c.in_err-put_mark.ensures))

pub returns-in_err-put_all : goal.returns-in_err-put_all
unfolding label_message
returns-in_err-put_all g c =
    failed _ _ _ _ _ c.from_residual-in_err-put_all.ensures.1
    (failed-before _
    (failed-then _ c.in_ok-put_mark.ensures
    (rw c.as_bytes.ensures.value at c.in_err-put_all.ensures)))

pub returns : goal.returns
unfolding label_message
returns g c =
    writes-last _ _ _ _ _
    (written-then _ _ _ c.in_ok-put_mark.ensures
    (rw c.as_bytes.ensures.value at c.in_ok-put_all.ensures))
    c.put_mark-2.ensures
