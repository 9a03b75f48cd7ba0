use Rattle.codespan_output.specs.Private.{underline_by_width}
use Rattle.codespan_core.proofs.Chains.{written-then, failed-then, failed-before, failed}
use Rattle.codespan_core.proofs.Chains.{writes-last}
use Rattle.codespan_output.proofs.rows.underlines.label_multi_caret.Goals as goal

pub returns-in_err-write_repeated-in-Top : goal.returns-in_err-write_repeated-in-Top
unfolding underline_by_width
returns-in_err-write_repeated-in-Top g c =
    rw c.in-Top.is
    (failed _ _ _ _ _ c.from_residual.ensures.1
    (failed-before _ c.in_err-write_repeated-in-Top.ensures))

pub returns-in_ok-write_repeated-in-Top : goal.returns-in_ok-write_repeated-in-Top
unfolding underline_by_width
returns-in_ok-write_repeated-in-Top g c =
    rw c.in-Top.is
    (writes-last _ _ _ _ _ c.in_ok-write_repeated-in-Top.ensures
    (rw (c.underline_caret.ensures, c.in-Top.is) at c.put_char.ensures))

pub returns-in_err-write_repeated-in-Bottom : goal.returns-in_err-write_repeated-in-Bottom
unfolding underline_by_width
returns-in_err-write_repeated-in-Bottom g c =
    rw c.in-Bottom.is
    (failed _ _ _ _ _ c.from_residual-in_err-write_repeated-in-Bottom.ensures.1
    (failed-before _ (failed-before _ c.in_err-write_repeated-in-Bottom.ensures)))

pub returns-in_err-put_char-in-Bottom : goal.returns-in_err-put_char-in-Bottom
unfolding underline_by_width
returns-in_err-put_char-in-Bottom g c =
    rw c.in-Bottom.is
    (failed _ _ _ _ _ c.from_residual-in_err-put_char-in-Bottom.ensures.1
    (failed-before _
    (failed-then _ c.in_ok-write_repeated-in-Bottom.ensures
    (rw (c.underline_caret-in-Bottom.ensures, c.in-Bottom.is) at
    c.in_err-put_char-in-Bottom.ensures))))

pub returns-in_ok-put_char-in-Bottom : goal.returns-in_ok-put_char-in-Bottom
unfolding underline_by_width
returns-in_ok-put_char-in-Bottom g c =
    rw c.in-Bottom.is
    (writes-last _ _ _ _ _
    (written-then _ _ _ c.in_ok-write_repeated-in-Bottom.ensures
    (rw (c.underline_caret-in-Bottom.ensures, c.in-Bottom.is) at
    c.in_ok-put_char-in-Bottom.ensures))
    c.write_underline_message.ensures)
