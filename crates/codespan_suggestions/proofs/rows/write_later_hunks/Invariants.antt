use Rattle.codespan_core.proofs.Std.{drop, flat_map, map, ◌∷◌}
use Rattle.codespan_core.proofs.Loops.{StillToWrite}
use Rattle.codespan_suggestions.specs.SuggestionRows.{stream_of_rows, hunk_rows}
use Rattle.codespan_suggestions.specs.SuggestionRows.Row.{BreakRow}
use Rattle.codespan_suggestions.specs.Private.FileViews.{settings_view, hunk_view}
use Rattle.codespan_suggestions.proofs.rows.write_later_hunks.Given as goal

-- the hunks left are still to be written
abbrev pub invariant-loop-hunk : goal.invariant-loop-hunk
invariant-loop-hunk g l =
    let settings = settings_view l.settings in
    StillToWrite (g.W.PutStyle.sink l.fn.w)
    (stream_of_rows settings (flat_map (λ rows. BreakRow ∷ rows)
    (map (hunk_rows l.usual_end) (map hunk_view l.hunks))))
    (flat_map (λ hunk. stream_of_rows settings
    (BreakRow ∷ hunk_rows l.usual_end (hunk_view hunk))) (drop l.hunk-index l.hunks))
    (g.W.PutStyle.sink l.w)
