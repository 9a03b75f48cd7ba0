use Rattle.codespan_output.specs.{snippet_locus}
use Rattle.codespan_core.proofs.Chains.{written-then, failed-then, failed-before, failed}
use Rattle.codespan_output.proofs.rows.parts.snippet_locus.Goals as goal

pub returns-in_err-put_all : goal.returns-in_err-put_all
unfolding snippet_locus
returns-in_err-put_all g c =
    failed _ _ _ _ _ c.from_residual.ensures.1
    (failed-before _
    (failed-before _
    (failed-before _ (failed-before _ (rw c.as_bytes.ensures.value at c.in_err-put_all.ensures)))))

pub returns-in_err-put_all-2 : goal.returns-in_err-put_all-2
unfolding snippet_locus
returns-in_err-put_all-2 g c =
    failed _ _ _ _ _ c.from_residual-in_err-put_all-2.ensures.1
    (failed-before _
    (failed-before _
    (failed-before _
    (failed-then _ (rw c.as_bytes.ensures.value at c.in_ok-put_all.ensures)
    c.in_err-put_all-2.ensures))))

pub returns-in_err-put_number : goal.returns-in_err-put_number
unfolding snippet_locus
returns-in_err-put_number g c =
    failed _ _ _ _ _ c.from_residual-in_err-put_number.ensures.1
    (failed-before _
    (failed-before _
    (failed-then _
    (written-then _ _ _ (rw c.as_bytes.ensures.value at c.in_ok-put_all.ensures)
    c.in_ok-put_all-2.ensures)
    c.in_err-put_number.ensures)))

pub returns-in_err-put_all-3 : goal.returns-in_err-put_all-3
unfolding snippet_locus
returns-in_err-put_all-3 g c =
    failed _ _ _ _ _ c.from_residual-in_err-put_all-3.ensures.1
    (failed-before _
    (failed-then _
    (written-then _ _ _
    (written-then _ _ _ (rw c.as_bytes.ensures.value at c.in_ok-put_all.ensures)
    c.in_ok-put_all-2.ensures)
    c.in_ok-put_number.ensures)
    c.in_err-put_all-3.ensures))

pub returns-in_err-put_number-2 : goal.returns-in_err-put_number-2
unfolding snippet_locus
returns-in_err-put_number-2 g c =
    failed _ _ _ _ _ c.from_residual-in_err-put_number-2.ensures.1
    (failed-then _
    (written-then _ _ _
    (written-then _ _ _
    (written-then _ _ _ (rw c.as_bytes.ensures.value at c.in_ok-put_all.ensures)
    c.in_ok-put_all-2.ensures)
    c.in_ok-put_number.ensures)
    c.in_ok-put_all-3.ensures)
    c.in_err-put_number-2.ensures)

pub returns : goal.returns
unfolding snippet_locus
returns g c =
    written-then _ _ _
    (written-then _ _ _
    (written-then _ _ _
    (written-then _ _ _ (rw c.as_bytes.ensures.value at c.in_ok-put_all.ensures)
    c.in_ok-put_all-2.ensures)
    c.in_ok-put_number.ensures)
    c.in_ok-put_all-3.ensures)
    c.in_ok-put_number-2.ensures
