use Rattle.codespan_output.specs.{trailing_message}
use Rattle.codespan_core.proofs.Chains.{failed-before, failed, writes-last}
use Rattle.codespan_output.proofs.rows.carets.write_trailing_message.Goals as goal

pub returns-in_err-put_all-in-Some : goal.returns-in_err-put_all-in-Some
unfolding trailing_message
returns-in_err-put_all-in-Some g c =
    rw c.in-Some.is
    (failed _ _ _ _ _ c.from_residual.ensures.1
    (failed-before _ c.in_err-put_all-in-Some.ensures))

pub returns-in_ok-put_all-in-Some : goal.returns-in_ok-put_all-in-Some
unfolding trailing_message
returns-in_ok-put_all-in-Some g c =
    rw c.in-Some.is
    (writes-last _ _ _ _ _ c.in_ok-put_all-in-Some.ensures c.write_message.ensures)
