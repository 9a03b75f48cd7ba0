use Rattle.std.proofs.Common.{◌∙◌, ap, map}
use Rattle.std.proofs.lemmas.List.{map-append}
use Rattle.codespan_styled.specs.Runs.{run_view, runs_of, styled_runs}
use Rattle.codespan_suggestions.specs.SuggestionOutput.{suggestion_stream}
use Rattle.gallery_cases.proofs.SuggestionOutputs.{one_more}
use Rattle.gallery_cases.proofs.suggestions.add_suggestion_runs.Goals as goal

pub loop-suggestion-preserved : goal.loop-suggestion-preserved
loop-suggestion-preserved g c = λ named.
    let config = c.args.config.now in
    let database = g.F.Files.database c.args.files.now in
    let s = c.suggestion-item.result in
    one_more (λ s. runs_of (suggestion_stream config database s)) c.args.suggestions.now
    c.loop-suggestion.suggestion-index s (styled_runs c.args.text.now)
    (styled_runs c.loop-suggestion.text) (map run_view c.append.new.self.items)
    (styled_runs c.in_ok-more.more) c.loop-suggestion-test.true c.suggestion-item.is
    (c.loop-suggestion.invariant named) (c.in_ok-more.ensures named)
    (ap (map run_view) c.in_ok-append.ensures.items
    ∙ map-append run_view c.loop-suggestion.text.runs.items c.in_ok-more.more.runs.items)
