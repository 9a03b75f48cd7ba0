use Rattle.codespan_core.proofs.Std.{ap, Bor, List, ℕ, ◌∙◌}
use Rattle.codespan_core.specs.SimpleFileViews.{name_of, source_of}
use Rattle.codespan_core.specs.SimpleModel.{simple_failure}
use Rattle.codespan_suggestions.specs.Views.{suggestion_view}
use Rattle.report.specs.RenderedTexts.{suggestion_text}
use Rattle.report.proofs.SuggestionTexts.{emitted_text, names_are_stated}
use Rattle.report.proofs.rendering.render_suggestion.Goals as goal

pub returns-in-Ok : goal.returns-in-Ok
returns-in-Ok c =
    let file = c.in_ok-file.file in
    let suggestion = c.args.suggestion.now in
    let style = c.args.settings.style in
    let width = c.args.settings.max_width in
    let failure = λ (id : Unit {0}). simple_failure (source_of file).now in
    emitted_text (name_of file).now (source_of file).now failure style width c.config_with.result
    suggestion _
    c.config_with.ensures
    (c.in-Ok.ensures.text
    (names_are_stated (name_of file).now (source_of file).now failure
    suggestion.edits.items))
    ∙ ap (λ (name : Bor (List ℕ)). suggestion_text style width name.now (source_of file).now
    (suggestion_view suggestion)) c.in_ok-file.ensures.name
    ∙ ap (λ (source : Bor (List ℕ)). suggestion_text style width c.args.name.now source.now
    (suggestion_view suggestion)) c.in_ok-file.ensures.source
