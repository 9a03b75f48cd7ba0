use Rattle.codespan_core.proofs.Std.{refl, sym, ap, ◌∙◌, ◌++◌, err_from_is_err_and}
use Rattle.codespan_core.specs.Streams.{newline}
use Rattle.codespan_edits.specs.RowViews.{numbered_row}
use Rattle.codespan_suggestions.specs.DrawnText.{line_end}
use Rattle.codespan_suggestions.specs.SuggestionRows.{line_row, end_rows, stream_of_rows}
use Rattle.codespan_suggestions.specs.Private.FileViews.{settings_view}
use Rattle.codespan_suggestions.proofs.RowLoops.{then-writes, first-fails}
use Rattle.codespan_suggestions.proofs.rows.write_drawn_row.Goals as goal

pub returns-in_err-write_line : goal.returns-in_err-write_line
returns-in_err-write_line g c =
    let p = err_from_is_err_and c.from_residual.result c.from_residual.ensures.1 in
    rw p.1 (first-fails _ _ _ _ _ c.in_err-write_line.ensures refl)

pub returns : goal.returns
returns g c =
    let settings = settings_view c.args.settings in
    let row = numbered_row c.args.row.now in
    then-writes _ _ _ _ _ _ _ c.in_ok-write_line.ensures c.write_end_rows.ensures
    (ap (λ end. (line_row settings row ++ newline)
    ++ stream_of_rows settings (end_rows c.args.usual_end.now end))
    (sym (c.line_end.ensures ∙ ap line_end c.as_bytes.ensures.value)))
