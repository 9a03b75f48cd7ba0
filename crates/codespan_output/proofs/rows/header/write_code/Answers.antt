use Rattle.codespan_core.proofs.Std.{sym, ◌∙◌}
use Rattle.codespan_core.proofs.Chains.{written-then, failed-then, failed-before, failed}
use Rattle.codespan_core.proofs.Chains.{writes-last}
use Rattle.codespan_output.proofs.Outputs.RowEquations.{bracketed-some}
use Rattle.codespan_output.proofs.rows.header.write_code.Goals as goal

pub returns-in_err-put_all-in-Some : goal.returns-in_err-put_all-in-Some
returns-in_err-put_all-in-Some g c =
    rw (
      c.in-Some.is,
      bracketed-some c.in-Some.code.now
          (sym c.is_empty.ensures ∙ c.if-not-is_empty.true),
    )
    (failed _ _ _ _ _ c.from_residual.ensures.1
    (failed-before _ (failed-before _ c.in_err-put_all-in-Some.ensures)))

pub returns-in_err-put_all-in-Some-2 : goal.returns-in_err-put_all-in-Some-2
returns-in_err-put_all-in-Some-2 g c =
    rw (
      c.in-Some.is,
      bracketed-some c.in-Some.code.now
          (sym c.is_empty.ensures ∙ c.if-not-is_empty.true),
    )
    (failed _ _ _ _ _ c.from_residual-in_err-put_all-in-Some-2.ensures.1
    (failed-before _
    (failed-then _ c.in_ok-put_all-in-Some.ensures
    (rw c.as_bytes.ensures.value at c.in_err-put_all-in-Some-2.ensures))))

pub returns-in_ok-put_all-in-Some-2 : goal.returns-in_ok-put_all-in-Some-2
returns-in_ok-put_all-in-Some-2 g c =
    rw (
      c.in-Some.is,
      bracketed-some c.in-Some.code.now
          (sym c.is_empty.ensures ∙ c.if-not-is_empty.true),
    )
    (writes-last _ _ _ _ _
    (written-then _ _ _ c.in_ok-put_all-in-Some.ensures
    (rw c.as_bytes.ensures.value at c.in_ok-put_all-in-Some-2.ensures))
    c.put_all-in-Some-2.ensures)
