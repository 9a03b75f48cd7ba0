use Rattle.codespan_core.proofs.Std.{List, arith, refl, sym, ap, ◌∙◌, nat_tests}
use Rattle.codespan_output.specs.{SingleLabelTuple, single_label_views, trailing_label}
use Rattle.codespan_output.specs.Private.{context_view, line_view}
use Rattle.codespan_core.proofs.Chains.{written-then, failed-then, failed-before, failed}
use Rattle.codespan_core.proofs.Chains.{writes-last}
use Rattle.codespan_core.proofs.Writes.{with_written-nil}
use Rattle.codespan_output.proofs.Outputs.RowEquations.{caret_rows_none, caret_rows_some}
use Rattle.codespan_output.proofs.rows.carets.write_caret_row.Goals as goal

pub returns-then-is_empty : goal.returns-then-is_empty
returns-then-is_empty g c =
    let none =
    caret_rows_none (context_view c.args.rows.now.context) (line_view c.args.rows.now.line)
    c.args.rows.now.line.labels.now
    (grind (arith, nat_tests, c.is_empty.ensures)) in
    rw none (refl, λ h. sym (with_written-nil (g.W.PutStyle.sink c.args.w.now)))

pub returns-in_err-write_row_start : goal.returns-in_err-write_row_start
returns-in_err-write_row_start g c =
    let some =
    caret_rows_some (context_view c.args.rows.now.context) (line_view c.args.rows.now.line)
    c.args.rows.now.line.labels.now (grind (arith, nat_tests, c.is_empty.ensures)) in
    rw some
    (failed _ _ _ _ _ c.from_residual.ensures.1
    (failed-before _ (failed-before _ (failed-before _ c.in_err-write_row_start.ensures))))

pub returns-in_err-write_carets : goal.returns-in_err-write_carets
returns-in_err-write_carets g c =
    let some =
    caret_rows_some (context_view c.args.rows.now.context) (line_view c.args.rows.now.line)
    c.args.rows.now.line.labels.now (grind (arith, nat_tests, c.is_empty.ensures)) in
    rw some
    (failed _ _ _ _ _ c.from_residual-in_err-write_carets.ensures.1
    (failed-before _
    (failed-before _ (failed-then _ c.in_ok-write_row_start.ensures
    c.in_err-write_carets.ensures))))

pub returns-in_err-write_trailing_message : goal.returns-in_err-write_trailing_message
returns-in_err-write_trailing_message g c =
    let trails = c.args.rows.now.messages.trails
    ∙ ap (λ (xs : List SingleLabelTuple). trailing_label (single_label_views xs))
    c.args.rows.now.labels in
    let some =
    caret_rows_some (context_view c.args.rows.now.context) (line_view c.args.rows.now.line)
    c.args.rows.now.line.labels.now (grind (arith, nat_tests, c.is_empty.ensures)) in
    rw some
    (failed _ _ _ _ _ c.from_residual-in_err-write_trailing_message.ensures.1
    (failed-before _
    (failed-then _ (written-then _ _ _ c.in_ok-write_row_start.ensures c.in_ok-write_carets.ensures)
    (rw trails at c.in_err-write_trailing_message.ensures))))

pub returns : goal.returns
returns g c =
    let trails = c.args.rows.now.messages.trails
    ∙ ap (λ (xs : List SingleLabelTuple). trailing_label (single_label_views xs))
    c.args.rows.now.labels in
    let some =
    caret_rows_some (context_view c.args.rows.now.context) (line_view c.args.rows.now.line)
    c.args.rows.now.line.labels.now (grind (arith, nat_tests, c.is_empty.ensures)) in
    rw some
    (writes-last _ _ _ _ _
    (written-then _ _ _
    (written-then _ _ _ c.in_ok-write_row_start.ensures c.in_ok-write_carets.ensures)
    (rw trails at c.in_ok-write_trailing_message.ensures))
    c.put_all.ensures)
