use Rattle.codespan_core.proofs.Std.{ap, ◌∙◌, slice_get}
use Rattle.codespan_edits.specs.Edits.{edited, text_edits}
use Rattle.report.proofs.AppliedSources.{after_first}
use Rattle.report.proofs.rendering.applied_source.Goals as goal

pub returns-in-Ok : goal.returns-in-Ok
returns-in-Ok c =
    let script = c.args.script.now in
    c.in-Ok.ensures.edited
    ∙ ap (λ edits. edited script.source.now (text_edits edits)) c.deref-2.ensures.value
    ∙ after_first script.source.now script.suggestions.items c.in-Some.suggestion.now
    (c.in-Some.ensures.value ∙ ap (λ suggestions. slice_get suggestions 0) c.deref.ensures.value)
