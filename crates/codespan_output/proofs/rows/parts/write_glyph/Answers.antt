use Rattle.codespan_core.proofs.Chains.{written-then, failed-then, failed-before, failed}
use Rattle.codespan_core.proofs.Chains.{writes-last}
use Rattle.codespan_output.proofs.rows.parts.write_glyph.Goals as goal

pub returns-in_err-put_mark : goal.returns-in_err-put_mark
returns-in_err-put_mark g c =
    failed _ _ _ _ _ c.from_residual.ensures.1 (failed-before _
    (failed-before _ c.in_err-put_mark.ensures))

pub returns-in_err-put_char : goal.returns-in_err-put_char
returns-in_err-put_char g c =
    failed _ _ _ _ _ c.from_residual-in_err-put_char.ensures.1 (failed-before _
    (failed-then _ c.in_ok-put_mark.ensures c.in_err-put_char.ensures))

pub returns : goal.returns
returns g c =
    writes-last _ _ _ _ _ (written-then _ _ _ c.in_ok-put_mark.ensures c.in_ok-put_char.ensures)
    c.put_mark-2.ensures
