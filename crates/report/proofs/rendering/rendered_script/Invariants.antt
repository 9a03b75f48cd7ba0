use Rattle.codespan_core.proofs.Std.{◌≡◌, ◌++◌, flat_map, map, string_bytes, take}
use Rattle.codespan_suggestions.specs.Views.{suggestion_view}
use Rattle.report.specs.RenderedTexts.{output_text, suggestion_text}
use Rattle.report.specs.Scripts.{script_view}
use Rattle.report.proofs.rendering.rendered_script.Given as goal

-- the diagnostic and the suggestions so far are in the text
abbrev pub invariant-loop-suggestion : goal.invariant-loop-suggestion
invariant-loop-suggestion l =
    let script = script_view l.script in
    string_bytes l.text
    ≡ output_text l.settings.style l.settings.max_width l.name script.source script.diagnostic
    ++ flat_map (suggestion_text l.settings.style l.settings.max_width l.name script.source)
    (map suggestion_view (take l.suggestion-index l.suggestion-items))
