use Rattle.codespan_output.specs.Private.{context_view, line_view}
use Rattle.codespan_core.proofs.Chains.{written-then, failed-then, failed-before, failed}
use Rattle.codespan_core.proofs.Chains.{writes-last}
use Rattle.codespan_output.proofs.Outputs.RowEquations.{line_rows}
use Rattle.codespan_output.proofs.rows.line_rows.write_line.Goals as goal

pub returns-in_err-write_source_row : goal.returns-in_err-write_source_row
returns-in_err-write_source_row g c =
    rw (line_rows (context_view c.args.context) (line_view c.args.line))
    (failed _ _ _ _ _ c.from_residual.ensures.1
    (failed-before _ (failed-before _ (failed-before _ c.in_err-write_source_row.ensures))))

pub returns-in_err-write_caret_row : goal.returns-in_err-write_caret_row
returns-in_err-write_caret_row g c =
    rw (line_rows (context_view c.args.context) (line_view c.args.line))
    (failed _ _ _ _ _ c.from_residual-in_err-write_caret_row.ensures.1
    (failed-before _
    (failed-before _
    (failed-then _ c.in_ok-write_source_row.ensures c.in_err-write_caret_row.ensures))))

pub returns-in_err-write_pointer_and_hanging_rows
    : goal.returns-in_err-write_pointer_and_hanging_rows
returns-in_err-write_pointer_and_hanging_rows g c =
    rw (line_rows (context_view c.args.context) (line_view c.args.line))
    (failed _ _ _ _ _ c.from_residual-in_err-write_pointer_and_hanging_rows.ensures.1
    (failed-before _
    (failed-then _
    (written-then _ _ _ c.in_ok-write_source_row.ensures c.in_ok-write_caret_row.ensures)
    c.in_err-write_pointer_and_hanging_rows.ensures)))

pub returns : goal.returns
returns g c =
    rw (line_rows (context_view c.args.context) (line_view c.args.line))
    (writes-last _ _ _ _ _
    (written-then _ _ _
    (written-then _ _ _ c.in_ok-write_source_row.ensures c.in_ok-write_caret_row.ensures)
    c.in_ok-write_pointer_and_hanging_rows.ensures)
    c.write_underlines.ensures)
