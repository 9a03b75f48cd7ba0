use Rattle.codespan_output.specs.{crossing_characters}
use Rattle.codespan_core.proofs.Chains.{written-then, failed-then, failed-before, failed}
use Rattle.codespan_core.proofs.Chains.{writes-last}
use Rattle.codespan_output.proofs.rows.lanes.write_crossing_characters.Goals as goal

pub returns-in-None : goal.returns-in-None
unfolding crossing_characters
returns-in-None g c = rw c.in-None.is c.put_spaces.ensures

pub returns-in_err-put_mark-in-Some : goal.returns-in_err-put_mark-in-Some
unfolding crossing_characters
returns-in_err-put_mark-in-Some g c =
    rw c.in-Some.is
    (failed _ _ _ _ _ c.from_residual.ensures.1
    (failed-before _ (failed-before _ c.in_err-put_mark-in-Some.ensures)))

pub returns-in_err-put_repeated-in-Some : goal.returns-in_err-put_repeated-in-Some
unfolding crossing_characters
returns-in_err-put_repeated-in-Some g c =
    rw c.in-Some.is
    (failed _ _ _ _ _ c.from_residual-in_err-put_repeated-in-Some.ensures.1
    (failed-before _
    (failed-then _ c.in_ok-put_mark-in-Some.ensures
    (rw c.underline_char.ensures at c.in_err-put_repeated-in-Some.ensures))))

pub returns-in_ok-put_repeated-in-Some : goal.returns-in_ok-put_repeated-in-Some
unfolding crossing_characters
returns-in_ok-put_repeated-in-Some g c =
    rw c.in-Some.is
    (writes-last _ _ _ _ _
    (written-then _ _ _ c.in_ok-put_mark-in-Some.ensures
    (rw c.underline_char.ensures at c.in_ok-put_repeated-in-Some.ensures))
    c.put_mark-in-Some.ensures)
