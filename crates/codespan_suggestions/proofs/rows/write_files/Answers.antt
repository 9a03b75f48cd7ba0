use Rattle.codespan_core.proofs.Std.{refl, ap, ◌∙◌, err_from_is_err_and, map, nil_from_length}
use Rattle.codespan_core.proofs.Loops.{StillToWrite-start, StillToWrite-end}
use Rattle.codespan_suggestions.specs.SuggestionRows.{stream_of_rows, separated, file_rows}
use Rattle.codespan_suggestions.specs.SuggestionRows.Row.{EmptyRow}
use Rattle.codespan_suggestions.specs.Private.FileViews.{settings_view, file_view}
use Rattle.codespan_suggestions.proofs.RowLoops.{then-writes, first-fails, first-parts}
use Rattle.codespan_suggestions.proofs.rows.write_files.Goals as goal

pub returns-in_default : goal.returns-in_default
returns-in_default g c =
    let settings = settings_view c.args.settings in
    let none = nil_from_length c.args.files.now c.in_default.ensures.cases in
    StillToWrite-end _ _ _ _ (StillToWrite-start _ _ _ refl)
    (ap (λ xs. stream_of_rows settings (separated EmptyRow (map file_rows (map file_view xs))))
    none)

pub returns-in_err-write_file : goal.returns-in_err-write_file
returns-in_err-write_file g c =
    let p = err_from_is_err_and c.from_residual.result c.from_residual.ensures.1 in
    let settings = settings_view c.args.settings in
    rw p.1 (first-fails _ _ _ _ _ c.in_err-write_file.ensures
    (ap (λ xs. stream_of_rows settings (separated EmptyRow (map file_rows (map file_view xs))))
    c.in-Some.ensures.cases.0
    ∙ first-parts settings EmptyRow (file_rows (file_view c.in-Some.first.now))
    (map file_rows (map file_view c.in-Some.rest.now))))

pub returns : goal.returns
returns g c =
    let settings = settings_view c.args.settings in
    then-writes _ _ _ _ _ _ _ c.in_ok-write_file.ensures c.write_later_files.ensures
    (ap (λ xs. stream_of_rows settings (separated EmptyRow (map file_rows (map file_view xs))))
    c.in-Some.ensures.cases.0
    ∙ first-parts settings EmptyRow (file_rows (file_view c.in-Some.first.now))
    (map file_rows (map file_view c.in-Some.rest.now)))
