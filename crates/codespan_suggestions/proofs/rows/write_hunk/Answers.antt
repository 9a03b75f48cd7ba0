use Rattle.codespan_core.proofs.Std.{ap, err_from_is_err_and, flat_map, drop_all}
use Rattle.codespan_core.proofs.Loops.{StillToWrite-start, StillToWrite-more, StillToWrite-failed}
use Rattle.codespan_core.proofs.Loops.{StillToWrite-end}
use Rattle.codespan_suggestions.specs.Private.FileViews.{settings_view}
use Rattle.codespan_suggestions.specs.SuggestionRows.{line_rows}
use Rattle.codespan_edits.specs.RowViews.{numbered_row}
use Rattle.codespan_suggestions.proofs.RowLoops.{rows_of_each, next_piece}
use Rattle.codespan_suggestions.proofs.rows.write_hunk.Goals as goal

pub loop-row-init : goal.loop-row-init
loop-row-init g c = rw c.deref-row-items.ensures.value
    (StillToWrite-start _ _ _
    (rows_of_each (settings_view c.args.settings) (line_rows c.args.usual_end.now) numbered_row _))

pub loop-row-preserved : goal.loop-row-preserved
loop-row-preserved g c =
    StillToWrite-more _ _ _ _ _ _ _ c.loop-row.invariant c.in_ok-write_drawn_row.ensures
    (next_piece _ _ c.loop-row.row-index c.row-item.result c.loop-row-test.true c.row-item.is)

pub returns-in_err-write_drawn_row : goal.returns-in_err-write_drawn_row
returns-in_err-write_drawn_row g c =
    let p = err_from_is_err_and c.from_residual.result c.from_residual.ensures.1 in
    rw p.1 (StillToWrite-failed _ _ _ _ _ _ _ c.loop-row.invariant c.in_err-write_drawn_row.ensures
    (next_piece _ _ c.loop-row.row-index c.row-item.result c.loop-row-test.true c.row-item.is))

pub returns : goal.returns
returns g c =
    StillToWrite-end _ _ _ _ c.loop-row.invariant
    (ap (flat_map _) (drop_all c.loop-row.row-index _ c.loop-row-test.false))
