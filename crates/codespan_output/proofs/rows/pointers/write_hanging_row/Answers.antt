use Rattle.codespan_core.proofs.Std.{◌≡◌, chars}
use Rattle.codespan_output.specs.{single_label_views, char_metrics, metrics_before, pointers}
use Rattle.codespan_output.specs.Private.{context_view, pointers_before_stream}
use Rattle.codespan_core.proofs.Chains.{written-then, failed-then, failed-before, failed}
use Rattle.codespan_core.proofs.Chains.{writes-last}
use Rattle.codespan_output.proofs.Characters.Consecutive.{char_metrics-consecutive}
use Rattle.codespan_output.proofs.Pointers.Before.{spaced-near}
use Rattle.codespan_output.proofs.rows.pointers.write_hanging_row.Given.{Over}
use Rattle.codespan_output.proofs.rows.pointers.write_hanging_row.Goals.{After-width_before-edge}
use Rattle.codespan_output.proofs.rows.pointers.write_hanging_row.Goals as goal

-- the pointers before the label's start are written
before : (g : Over) (c : After-width_before-edge g)
    → let x = c.args.rows.now.context in
    let line = c.args.rows.now.line in
    let start = c.args.label.now.1.start in
    pointers_before_stream x line start c.width_before-edge.result
    ≡ pointers (context_view x) (single_label_views line.labels.now)
    (metrics_before start (char_metrics x.tab_width line.text.now))
before g c =
    let x = c.args.rows.now.context in
    let line = c.args.rows.now.line in
    spaced-near (context_view x) (single_label_views line.labels.now) _
    c.args.label.now.1.start c.width_before-edge.result
    (char_metrics-consecutive x.tab_width 0 0 (chars line.text.now))
    c.requires.within_max_start (rw c.args.rows.now.input at c.width_before-edge.ensures)

pub returns-in_err-write_row_start : goal.returns-in_err-write_row_start
returns-in_err-write_row_start g c =
    failed _ _ _ _ _ c.from_residual.ensures.1
    (failed-before _ (failed-before _ (failed-before _ c.in_err-write_row_start.ensures)))

pub returns-in_err-write_caret_pointers : goal.returns-in_err-write_caret_pointers
returns-in_err-write_caret_pointers g c =
    let drawn = before g
    (goal.at.returns-in_err-write_caret_pointers g c).After-width_before-edge in
    failed _ _ _ _ _ c.from_residual-in_err-write_caret_pointers.ensures.1
    (failed-before _
    (failed-before _
    (failed-then _ c.in_ok-write_row_start.ensures
    (rw drawn at c.in_err-write_caret_pointers.ensures))))

pub returns-in_err-write_message : goal.returns-in_err-write_message
returns-in_err-write_message g c =
    let drawn = before g (goal.at.returns-in_err-write_message g c).After-width_before-edge in
    failed _ _ _ _ _ c.from_residual-in_err-write_message.ensures.1
    (failed-before _
    (failed-then _
    (written-then _ _ _ c.in_ok-write_row_start.ensures
    (rw drawn at c.in_ok-write_caret_pointers.ensures))
    c.in_err-write_message.ensures))

pub returns : goal.returns
returns g c =
    let drawn = before g (goal.at.returns g c).After-width_before-edge in
    writes-last _ _ _ _ _
    (written-then _ _ _
    (written-then _ _ _ c.in_ok-write_row_start.ensures
    (rw drawn at c.in_ok-write_caret_pointers.ensures))
    c.in_ok-write_message.ensures)
    c.put_all.ensures
