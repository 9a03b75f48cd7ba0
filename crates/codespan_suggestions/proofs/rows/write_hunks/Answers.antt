use Rattle.codespan_core.proofs.Std.{refl, ap, ◌∙◌, err_from_is_err_and, map, nil_from_length}
use Rattle.codespan_core.proofs.Loops.{StillToWrite-start, StillToWrite-end}
use Rattle.codespan_suggestions.specs.SuggestionRows.{stream_of_rows, separated, hunk_rows}
use Rattle.codespan_suggestions.specs.SuggestionRows.Row.{BreakRow}
use Rattle.codespan_suggestions.specs.Private.FileViews.{settings_view, hunk_view}
use Rattle.codespan_suggestions.proofs.RowLoops.{then-writes, first-fails, first-parts}
use Rattle.codespan_suggestions.proofs.rows.write_hunks.Goals as goal

pub returns-in_default : goal.returns-in_default
returns-in_default g c =
    let settings = settings_view c.args.settings in
    let none = nil_from_length c.args.hunks.now c.in_default.ensures.cases in
    StillToWrite-end _ _ _ _ (StillToWrite-start _ _ _ refl)
    (ap (λ xs. stream_of_rows settings
    (separated BreakRow (map (hunk_rows c.args.usual_end.now) (map hunk_view xs)))) none)

pub returns-in_err-write_hunk : goal.returns-in_err-write_hunk
returns-in_err-write_hunk g c =
    let p = err_from_is_err_and c.from_residual.result c.from_residual.ensures.1 in
    let settings = settings_view c.args.settings in
    rw p.1 (first-fails _ _ _ _ _ c.in_err-write_hunk.ensures
    (ap (λ xs. stream_of_rows settings
    (separated BreakRow (map (hunk_rows c.args.usual_end.now) (map hunk_view xs))))
    c.in-Some.ensures.cases.0
    ∙ first-parts settings BreakRow
    ((hunk_rows c.args.usual_end.now) (hunk_view c.in-Some.first.now))
    (map (hunk_rows c.args.usual_end.now) (map hunk_view c.in-Some.rest.now))))

pub returns : goal.returns
returns g c =
    let settings = settings_view c.args.settings in
    then-writes _ _ _ _ _ _ _ c.in_ok-write_hunk.ensures c.write_later_hunks.ensures
    (ap (λ xs. stream_of_rows settings
    (separated BreakRow (map (hunk_rows c.args.usual_end.now) (map hunk_view xs))))
    c.in-Some.ensures.cases.0
    ∙ first-parts settings BreakRow
    ((hunk_rows c.args.usual_end.now) (hunk_view c.in-Some.first.now))
    (map (hunk_rows c.args.usual_end.now) (map hunk_view c.in-Some.rest.now)))
