use Rattle.codespan_core.proofs.Std.{refl, ap, ◌∙◌, err_from_is_err_and, map, ◌≡◌, ℕ}
use Rattle.codespan_core.proofs.Std.{List}
use Rattle.codespan_core.specs.Streams.{Stream}
use Rattle.codespan_edits.specs.declared.hunks.Hunk.{Hunk}
use Rattle.codespan_suggestions.specs.SuggestionRows.{stream_of_rows, separated, hunk_rows}
use Rattle.codespan_suggestions.specs.SuggestionRows.Row.{BreakRow}
use Rattle.codespan_suggestions.specs.Private.FileViews.{settings_view, hunk_view}
use Rattle.codespan_suggestions.proofs.RowLoops.{then-writes, first-fails, second-fails}
use Rattle.codespan_suggestions.proofs.RowLoops.{writes-same}
use Rattle.codespan_suggestions.proofs.rows.write_file.Goals as goal

pub returns-in_err-write_start : goal.returns-in_err-write_start
returns-in_err-write_start g c =
    let p = err_from_is_err_and c.from_residual.result c.from_residual.ensures.1 in
    rw p.1 (first-fails _ _ _ _ _ c.in_err-write_start.ensures refl)

pub returns-in_err-write_empty : goal.returns-in_err-write_empty
returns-in_err-write_empty g c =
    let p = err_from_is_err_and c.from_residual-in_err-write_empty.result
    c.from_residual-in_err-write_empty.ensures.1 in
    let file = c.args.file.now in
    rw p.1 (second-fails _ _ _ _
    (stream_of_rows (settings_view c.args.settings)
    (separated BreakRow (map (hunk_rows file.usual_end.items) (map hunk_view file.hunks.items))))
    _ _ c.in_ok-write_start.ensures c.in_err-write_empty.ensures refl)

pub returns : goal.returns
returns g c =
    let settings = settings_view c.args.settings in
    let rows : List ℕ → List Hunk → Stream = λ usual hunks.
    stream_of_rows settings (separated BreakRow (map (hunk_rows usual) (map hunk_view hunks))) in
    let file = c.args.file.now in
    let same : rows c.as_slice.result.now c.deref.result.now
    ≡ rows file.usual_end.items file.hunks.items =
    ap (λ usual. rows usual c.deref.result.now) c.as_slice.ensures.value
    ∙ ap (rows file.usual_end.items) c.deref.ensures.value in
    then-writes _ _ _ _ _ _ _ c.in_ok-write_start.ensures
    (then-writes _ _ _ _ _ _ _ c.in_ok-write_empty.ensures
    (writes-same _ _ _ _ _ same c.write_hunks.ensures) refl) refl
