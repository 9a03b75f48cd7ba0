use Rattle.codespan_output.specs.{header_row}
use Rattle.codespan_core.proofs.Chains.{written-then, failed-then, failed-before, failed}
use Rattle.codespan_core.proofs.Chains.{writes-last}
use Rattle.codespan_output.proofs.rows.header.write_header.Goals as goal

pub returns-in_err-write_header_locus : goal.returns-in_err-write_header_locus
unfolding header_row
returns-in_err-write_header_locus g c =
    failed _ _ _ _ _ c.from_residual.ensures.1 (failed-before _ (failed-before _ (failed-before _
    (failed-before _ (failed-before _ (failed-before _ (failed-before _
    (failed-before _ c.in_err-write_header_locus.ensures))))))))

pub returns-in_err-put_mark : goal.returns-in_err-put_mark
unfolding header_row
returns-in_err-put_mark g c =
    failed _ _ _ _ _ c.from_residual-in_err-put_mark.ensures.1 (failed-before _ (failed-before _
    (failed-before _ (failed-before _ (failed-before _ (failed-before _ (failed-before _
    (failed-then _ c.in_ok-write_header_locus.ensures c.in_err-put_mark.ensures))))))))

pub returns-in_err-put_all : goal.returns-in_err-put_all
unfolding header_row
returns-in_err-put_all g c =
    failed _ _ _ _ _ c.from_residual-in_err-put_all.ensures.1 (failed-before _ (failed-before _
    (failed-before _ (failed-before _ (failed-before _ (failed-before _ (failed-then _
    (written-then _ _ _ c.in_ok-write_header_locus.ensures c.in_ok-put_mark.ensures) (rw
    (c.as_bytes.ensures.value, c.severity_name.ensures) at c.in_err-put_all.ensures))))))))

pub returns-in_err-write_code : goal.returns-in_err-write_code
unfolding header_row
returns-in_err-write_code g c =
    failed _ _ _ _ _ c.from_residual-in_err-write_code.ensures.1 (failed-before _ (failed-before _
    (failed-before _ (failed-before _ (failed-before _ (failed-then _ (written-then _ _ _
    (written-then _ _ _ c.in_ok-write_header_locus.ensures c.in_ok-put_mark.ensures) (rw
    (c.as_bytes.ensures.value, c.severity_name.ensures) at c.in_ok-put_all.ensures))
    c.in_err-write_code.ensures))))))

pub returns-in_err-put_mark-2 : goal.returns-in_err-put_mark-2
unfolding header_row
returns-in_err-put_mark-2 g c =
    failed _ _ _ _ _ c.from_residual-in_err-put_mark-2.ensures.1 (failed-before _ (failed-before _
    (failed-before _ (failed-before _ (failed-then _ (written-then _ _ _ (written-then _ _ _
    (written-then _ _ _ c.in_ok-write_header_locus.ensures c.in_ok-put_mark.ensures) (rw
    (c.as_bytes.ensures.value, c.severity_name.ensures) at c.in_ok-put_all.ensures))
    c.in_ok-write_code.ensures) c.in_err-put_mark-2.ensures)))))

pub returns-in_err-put_all-2 : goal.returns-in_err-put_all-2
unfolding header_row
returns-in_err-put_all-2 g c =
    failed _ _ _ _ _ c.from_residual-in_err-put_all-2.ensures.1 (failed-before _ (failed-before _
    (failed-before _ (failed-then _ (written-then _ _ _ (written-then _ _ _ (written-then _ _ _
    (written-then _ _ _ c.in_ok-write_header_locus.ensures c.in_ok-put_mark.ensures) (rw
    (c.as_bytes.ensures.value, c.severity_name.ensures) at c.in_ok-put_all.ensures))
    c.in_ok-write_code.ensures) c.in_ok-put_mark-2.ensures) c.in_err-put_all-2.ensures))))

pub returns-in_err-put_all-3 : goal.returns-in_err-put_all-3
unfolding header_row
returns-in_err-put_all-3 g c =
    failed _ _ _ _ _ c.from_residual-in_err-put_all-3.ensures.1 (failed-before _ (failed-before _
    (failed-then _ (written-then _ _ _ (written-then _ _ _ (written-then _ _ _ (written-then _ _ _
    (written-then _ _ _ c.in_ok-write_header_locus.ensures c.in_ok-put_mark.ensures) (rw
    (c.as_bytes.ensures.value, c.severity_name.ensures) at c.in_ok-put_all.ensures))
    c.in_ok-write_code.ensures) c.in_ok-put_mark-2.ensures) c.in_ok-put_all-2.ensures)
    (rw c.as_bytes-2.ensures.value at c.in_err-put_all-3.ensures))))

pub returns-in_err-put_mark-3 : goal.returns-in_err-put_mark-3
unfolding header_row
returns-in_err-put_mark-3 g c =
    failed _ _ _ _ _ c.from_residual-in_err-put_mark-3.ensures.1 (failed-before _ (failed-then _
    (written-then _ _ _ (written-then _ _ _ (written-then _ _ _ (written-then _ _ _
    (written-then _ _ _ (written-then _ _ _ c.in_ok-write_header_locus.ensures
    c.in_ok-put_mark.ensures) (rw (c.as_bytes.ensures.value, c.severity_name.ensures) at
    c.in_ok-put_all.ensures)) c.in_ok-write_code.ensures) c.in_ok-put_mark-2.ensures)
    c.in_ok-put_all-2.ensures) (rw c.as_bytes-2.ensures.value at c.in_ok-put_all-3.ensures))
    c.in_err-put_mark-3.ensures))

pub returns : goal.returns
unfolding header_row
returns g c =
    writes-last _ _ _ _ _ (written-then _ _ _ (written-then _ _ _ (written-then _ _ _
    (written-then _ _ _ (written-then _ _ _ (written-then _ _ _
    (written-then _ _ _ c.in_ok-write_header_locus.ensures c.in_ok-put_mark.ensures) (rw
    (c.as_bytes.ensures.value, c.severity_name.ensures) at c.in_ok-put_all.ensures))
    c.in_ok-write_code.ensures) c.in_ok-put_mark-2.ensures) c.in_ok-put_all-2.ensures)
    (rw c.as_bytes-2.ensures.value at c.in_ok-put_all-3.ensures)) c.in_ok-put_mark-3.ensures)
    c.put_all-4.ensures
