use Rattle.codespan_core.proofs.Std.{◌≡◌, ◌-◌, ◌^◌, arith, chars, IsUtf8-had}
use Rattle.codespan_output.specs.{single_label_views, char_metrics, pointers}
use Rattle.codespan_output.specs.Private.{context_view, pointers_before_stream}
use Rattle.codespan_core.proofs.Chains.{written-then, failed-then, failed-before, failed}
use Rattle.codespan_core.proofs.Chains.{writes-last}
use Rattle.codespan_output.proofs.Characters.Consecutive.{char_metrics-consecutive}
use Rattle.codespan_output.proofs.Pointers.Before.{spaced-all}
use Rattle.codespan_output.proofs.Outputs.RowEquations.{all_before}
use Rattle.codespan_output.proofs.rows.pointers.write_pointer_row.Given.{Over}
use Rattle.codespan_output.proofs.rows.pointers.write_pointer_row.Goals.{After-width_up_to-edge}
use Rattle.codespan_output.proofs.rows.pointers.write_pointer_row.Goals as goal

-- all pointers of the line are written
all : (g : Over) (c : After-width_up_to-edge g)
    → let x = c.args.rows.now.context in
    let line = c.args.rows.now.line in
    pointers_before_stream x line (2 ^ 64 - 1) c.width_up_to-edge.result
    ≡ pointers (context_view x) (single_label_views line.labels.now)
    (char_metrics x.tab_width line.text.now)
all g c =
    let x = c.args.rows.now.context in
    let line = c.args.rows.now.line in
    spaced-all (context_view x) (single_label_views line.labels.now) _ _
    c.max_label_start.result c.width_up_to-edge.result
    (char_metrics-consecutive x.tab_width 0 0 (chars line.text.now))
    (all_before x.tab_width line.text.now (IsUtf8-had _ line.utf8) (omega arith))
    c.max_label_start.ensures (rw c.args.rows.now.input at c.width_up_to-edge.ensures)

pub returns-in_err-write_row_start : goal.returns-in_err-write_row_start
returns-in_err-write_row_start g c =
    failed _ _ _ _ _ c.from_residual.ensures.1
    (failed-before _ (failed-before _ c.in_err-write_row_start.ensures))

pub returns-in_err-write_caret_pointers : goal.returns-in_err-write_caret_pointers
returns-in_err-write_caret_pointers g c =
    let drawn = all g (goal.at.returns-in_err-write_caret_pointers g c).After-width_up_to-edge in
    failed _ _ _ _ _ c.from_residual-in_err-write_caret_pointers.ensures.1
    (failed-before _
    (failed-then _ c.in_ok-write_row_start.ensures
    (rw drawn at c.in_err-write_caret_pointers.ensures)))

pub returns : goal.returns
returns g c =
    let drawn = all g (goal.at.returns g c).After-width_up_to-edge in
    writes-last _ _ _ _ _
    (written-then _ _ _ c.in_ok-write_row_start.ensures
    (rw drawn at c.in_ok-write_caret_pointers.ensures))
    c.put_all.ensures
