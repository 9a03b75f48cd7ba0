use Rattle.codespan_core.proofs.Std.{refl, sym, ap, ◌∙◌, ◌++◌, ◌∷◌, [], append-nil}
use Rattle.codespan_core.proofs.Std.{if◌then◌else◌}
use Rattle.codespan_core.specs.Streams.{newline}
use Rattle.codespan_core.proofs.Loops.{StillToWrite-start, StillToWrite-end}
use Rattle.codespan_suggestions.specs.SuggestionRows.{stream_of_rows, end_row}
use Rattle.codespan_suggestions.specs.SuggestionRows.Row.{EndRow}
use Rattle.codespan_suggestions.specs.Private.FileViews.{settings_view}
use Rattle.codespan_suggestions.proofs.RowLoops.{writes-same}
use Rattle.codespan_suggestions.proofs.rows.write_end_rows.Goals as goal

pub returns-then-eq : goal.returns-then-eq
returns-then-eq g c =
    let settings = settings_view c.args.settings in
    let end = c.args.end.now in
    StillToWrite-end _ _ _ _ (StillToWrite-start _ _ _ refl)
    (ap (λ b. stream_of_rows settings (if b then [] else EndRow end ∷ []))
    (sym c.eq.ensures ∙ c.if-eq.true))

pub returns-else-eq : goal.returns-else-eq
returns-else-eq g c =
    let settings = settings_view c.args.settings in
    let end = c.args.end.now in
    writes-same _ _ _ _ _
    (sym (ap (λ b. stream_of_rows settings (if b then [] else EndRow end ∷ []))
    (sym c.eq.ensures ∙ c.if-eq.false)
    ∙ append-nil (end_row settings end ++ newline)))
    c.write_end.ensures
