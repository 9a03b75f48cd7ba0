use Rattle.codespan_core.proofs.Std.{ap, err_from_is_err_and, flat_map, drop_all}
use Rattle.codespan_core.proofs.Loops.{StillToWrite-start, StillToWrite-more, StillToWrite-failed}
use Rattle.codespan_core.proofs.Loops.{StillToWrite-end}
use Rattle.codespan_suggestions.specs.Private.FileViews.{settings_view, file_view}
use Rattle.codespan_suggestions.specs.SuggestionRows.{file_rows}
use Rattle.codespan_suggestions.specs.SuggestionRows.Row.{EmptyRow}
use Rattle.codespan_suggestions.proofs.RowLoops.{rows_after, next_piece}
use Rattle.codespan_suggestions.proofs.rows.write_later_files.Goals as goal

pub loop-file-init : goal.loop-file-init
loop-file-init g c = StillToWrite-start _ _ _
    (rows_after (settings_view c.args.settings) EmptyRow file_rows file_view _)

pub loop-file-preserved : goal.loop-file-preserved
loop-file-preserved g c =
    StillToWrite-more _ _ _ _ _ _ _ c.loop-file.invariant c.in_ok-write_later_file.ensures
    (next_piece _ _ c.loop-file.file-index c.file-item.result c.loop-file-test.true c.file-item.is)

pub returns-in_err-write_later_file : goal.returns-in_err-write_later_file
returns-in_err-write_later_file g c =
    let p = err_from_is_err_and c.from_residual.result c.from_residual.ensures.1 in
    rw p.1
    (StillToWrite-failed _ _ _ _ _ _ _ c.loop-file.invariant c.in_err-write_later_file.ensures
    (next_piece _ _ c.loop-file.file-index c.file-item.result c.loop-file-test.true c.file-item.is))

pub returns : goal.returns
returns g c =
    StillToWrite-end _ _ _ _ c.loop-file.invariant
    (ap (flat_map _) (drop_all c.loop-file.file-index _ c.loop-file-test.false))
