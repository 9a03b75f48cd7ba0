use Rattle.codespan_output.specs.{outer_gutter_number}
use Rattle.codespan_core.proofs.Chains.{written-then, failed-then, failed-before, failed}
use Rattle.codespan_core.proofs.Chains.{writes-last}
use Rattle.codespan_output.proofs.rows.parts.outer_gutter_number.Goals as goal

pub returns-in_err-put_mark : goal.returns-in_err-put_mark
unfolding outer_gutter_number
returns-in_err-put_mark g c =
    failed _ _ _ _ _ c.from_residual.ensures.1 (failed-before _ (failed-before _ (failed-before _
    (failed-before _ c.in_err-put_mark.ensures))))

pub returns-in_err-put_spaces : goal.returns-in_err-put_spaces
unfolding outer_gutter_number
returns-in_err-put_spaces g c =
    failed _ _ _ _ _ c.from_residual-in_err-put_spaces.ensures.1 (failed-before _ (failed-before _
    (failed-before _ (failed-then _ c.in_ok-put_mark.ensures (rw
    (c.saturating_sub.ensures, c.count_digits.ensures) at c.in_err-put_spaces.ensures)))))

pub returns-in_err-put_number : goal.returns-in_err-put_number
unfolding outer_gutter_number
returns-in_err-put_number g c =
    failed _ _ _ _ _ c.from_residual-in_err-put_number.ensures.1 (failed-before _ (failed-before _
    (failed-then _ (written-then _ _ _ c.in_ok-put_mark.ensures (rw
    (c.saturating_sub.ensures, c.count_digits.ensures) at c.in_ok-put_spaces.ensures))
    c.in_err-put_number.ensures)))

pub returns-in_err-put_mark-2 : goal.returns-in_err-put_mark-2
unfolding outer_gutter_number
returns-in_err-put_mark-2 g c =
    failed _ _ _ _ _ c.from_residual-in_err-put_mark-2.ensures.1 (failed-before _ (failed-then _
    (written-then _ _ _ (written-then _ _ _ c.in_ok-put_mark.ensures (rw
    (c.saturating_sub.ensures, c.count_digits.ensures) at c.in_ok-put_spaces.ensures))
    c.in_ok-put_number.ensures) c.in_err-put_mark-2.ensures))

pub returns : goal.returns
unfolding outer_gutter_number
returns g c =
    writes-last _ _ _ _ _ (written-then _ _ _ (written-then _ _ _
    (written-then _ _ _ c.in_ok-put_mark.ensures (rw (
      c.saturating_sub.ensures,
      c.count_digits.ensures,
    ) at c.in_ok-put_spaces.ensures)) c.in_ok-put_number.ensures)
    c.in_ok-put_mark-2.ensures) c.put_all.ensures
