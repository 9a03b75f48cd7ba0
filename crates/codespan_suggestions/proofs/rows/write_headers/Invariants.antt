use Rattle.codespan_core.proofs.Std.{drop, flat_map, map, ◌++◌, Some}
use Rattle.codespan_core.specs.Streams.{newline}
use Rattle.codespan_core.proofs.Loops.{StillToWrite}
use Rattle.codespan_suggestions.specs.SuggestionRows.{stream_of, stream_of_rows, header_rows}
use Rattle.codespan_suggestions.specs.SuggestionRows.Row.{HeaderRow}
use Rattle.codespan_suggestions.specs.Private.FileViews.{settings_view, file_view}
use Rattle.codespan_suggestions.proofs.rows.write_headers.Given as goal

-- the headers left are still to be written
abbrev pub invariant-loop-file : goal.invariant-loop-file
invariant-loop-file g l =
    let settings = settings_view l.settings in
    StillToWrite (g.W.PutStyle.sink l.fn.w)
    (stream_of_rows settings (header_rows (map file_view l.files)))
    (flat_map (λ file. stream_of settings (HeaderRow (Some (file_view file).locus)) ++ newline)
    (drop l.file-index l.files))
    (g.W.PutStyle.sink l.w)
