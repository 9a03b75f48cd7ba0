use Rattle.codespan_core.proofs.Std.{ap, err_from_is_err_and, flat_map, drop_all}
use Rattle.codespan_core.proofs.Loops.{StillToWrite-start, StillToWrite-more, StillToWrite-failed}
use Rattle.codespan_core.proofs.Loops.{StillToWrite-end}
use Rattle.codespan_suggestions.specs.Private.FileViews.{settings_view, hunk_view}
use Rattle.codespan_suggestions.specs.SuggestionRows.{hunk_rows}
use Rattle.codespan_suggestions.specs.SuggestionRows.Row.{BreakRow}
use Rattle.codespan_suggestions.proofs.RowLoops.{rows_after, next_piece}
use Rattle.codespan_suggestions.proofs.rows.write_later_hunks.Goals as goal

pub loop-hunk-init : goal.loop-hunk-init
loop-hunk-init g c = StillToWrite-start _ _ _
    (rows_after (settings_view c.args.settings) BreakRow
    (hunk_rows c.args.usual_end.now) hunk_view _)

pub loop-hunk-preserved : goal.loop-hunk-preserved
loop-hunk-preserved g c =
    StillToWrite-more _ _ _ _ _ _ _ c.loop-hunk.invariant c.in_ok-write_later_hunk.ensures
    (next_piece _ _ c.loop-hunk.hunk-index c.hunk-item.result c.loop-hunk-test.true c.hunk-item.is)

pub returns-in_err-write_later_hunk : goal.returns-in_err-write_later_hunk
returns-in_err-write_later_hunk g c =
    let p = err_from_is_err_and c.from_residual.result c.from_residual.ensures.1 in
    rw p.1
    (StillToWrite-failed _ _ _ _ _ _ _ c.loop-hunk.invariant c.in_err-write_later_hunk.ensures
    (next_piece _ _ c.loop-hunk.hunk-index c.hunk-item.result c.loop-hunk-test.true c.hunk-item.is))

pub returns : goal.returns
returns g c =
    StillToWrite-end _ _ _ _ c.loop-hunk.invariant
    (ap (flat_map _) (drop_all c.loop-hunk.hunk-index _ c.loop-hunk-test.false))
