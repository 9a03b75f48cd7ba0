use Rattle.std.proofs.Common.{refl, string_bytes, ◌∙◌, ap, ◌++◌}
use Rattle.codespan_base.specs.Streams.{text_of}
use Rattle.codespan_suggestions.specs.SuggestionOutput.{suggestion_stream}
use Rattle.gallery_cases.proofs.SuggestionOutputs.{one_more, stated_names}
use Rattle.gallery_cases.proofs.suggestions.add_texts.Goals as goal

pub loop-suggestion-preserved : goal.loop-suggestion-preserved
loop-suggestion-preserved g c = λ named.
    let config = c.args.config.now in
    let database = g.F.Files.database c.args.files.now in
    let s = c.suggestion-item.result in
    one_more (λ s. text_of (suggestion_stream config database s)) c.args.suggestions.now
    c.loop-suggestion.suggestion-index s c.args.output.now.items
    c.loop-suggestion.output.items c.extend_from_slice.new.self.items
    (string_bytes c.in_ok-text.text) c.loop-suggestion-test.true c.suggestion-item.is
    (c.loop-suggestion.invariant named)
    (c.in_ok-text.ensures.text (stated_names database s.edits.items named))
    (c.in_ok-extend_from_slice.ensures.items
    ∙ ap (λ bytes. c.loop-suggestion.output.items ++ bytes) c.as_bytes.ensures.value)
