use Rattle.codespan_core.proofs.Std.{ap, Bor, List, ℕ, map, ◌∙◌, slice_get}
use Rattle.codespan_core.specs.SimpleFileViews.{name_of, source_of}
use Rattle.codespan_suggestions.specs.Views.{suggestion_view}
use Rattle.report.specs.RenderedTexts.{first_diff}
use Rattle.report.proofs.ScriptDiffs.{first_diff_text}
use Rattle.report.proofs.rendering.script_diff.Goals as goal

pub returns-in-Ok : goal.returns-in-Ok
returns-in-Ok c =
    let file = c.in_ok-file.file in
    let suggestions = c.args.script.now.suggestions.items in
    first_diff_text (name_of file).now (source_of file).now _ suggestions c.in-Some.first.now _
    (c.in-Some.ensures.value ∙ ap (λ items. slice_get items 0) c.deref.ensures.value)
    c.in-Ok.ensures.text
    ∙ ap (λ (name : Bor (List ℕ)). first_diff name.now (source_of file).now
    (map suggestion_view suggestions)) c.in_ok-file.ensures.name
    ∙ ap (λ (source : Bor (List ℕ)). first_diff c.args.name.now source.now
    (map suggestion_view suggestions)) c.in_ok-file.ensures.source
