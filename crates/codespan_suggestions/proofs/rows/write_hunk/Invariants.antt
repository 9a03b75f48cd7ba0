use Rattle.codespan_core.proofs.Std.{drop, flat_map}
use Rattle.codespan_core.proofs.Loops.{StillToWrite}
use Rattle.codespan_edits.specs.RowViews.{numbered_row}
use Rattle.codespan_suggestions.specs.SuggestionRows.{stream_of_rows, line_rows, hunk_rows}
use Rattle.codespan_suggestions.specs.Private.FileViews.{settings_view, hunk_view}
use Rattle.codespan_suggestions.proofs.rows.write_hunk.Given as goal

-- the rows left are still to be written
abbrev pub invariant-loop-row : goal.invariant-loop-row
invariant-loop-row g l =
    let settings = settings_view l.settings in
    StillToWrite (g.W.PutStyle.sink l.fn.w)
    (stream_of_rows settings (hunk_rows l.usual_end (hunk_view l.hunk)))
    (flat_map (λ row. stream_of_rows settings (line_rows l.usual_end (numbered_row row)))
    (drop l.row-index l.row-items))
    (g.W.PutStyle.sink l.w)
