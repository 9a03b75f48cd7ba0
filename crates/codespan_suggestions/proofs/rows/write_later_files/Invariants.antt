use Rattle.codespan_core.proofs.Std.{drop, flat_map, map, ◌∷◌}
use Rattle.codespan_core.proofs.Loops.{StillToWrite}
use Rattle.codespan_suggestions.specs.SuggestionRows.{stream_of_rows, file_rows}
use Rattle.codespan_suggestions.specs.SuggestionRows.Row.{EmptyRow}
use Rattle.codespan_suggestions.specs.Private.FileViews.{settings_view, file_view}
use Rattle.codespan_suggestions.proofs.rows.write_later_files.Given as goal

-- the files left are still to be written
abbrev pub invariant-loop-file : goal.invariant-loop-file
invariant-loop-file g l =
    let settings = settings_view l.settings in
    StillToWrite (g.W.PutStyle.sink l.fn.w)
    (stream_of_rows settings (flat_map (λ rows. EmptyRow ∷ rows)
    (map file_rows (map file_view l.files))))
    (flat_map (λ file. stream_of_rows settings (EmptyRow ∷ file_rows (file_view file)))
    (drop l.file-index l.files))
    (g.W.PutStyle.sink l.w)
