use Rattle.codespan_styled.specs.Runs.{styled_runs}
use Rattle.codespan_suggestions.specs.SuggestionOutput.{suggestion_stream}
use Rattle.gallery_cases.proofs.SuggestionOutputs.{stated_names, written_runs}
use Rattle.gallery_cases.proofs.suggestions.runs_of_suggestion.Goals as goal

-- a new writer has received the output
pub returns : goal.returns
returns g c = λ named.
    let config = c.args.config.now in
    let database = g.F.Files.database c.args.files.now in
    let s = c.args.suggestion.now in
    let stated = stated_names database s.edits.items named in
    written_runs (suggestion_stream config database s) (styled_runs c.in_ok-into_text.field-0)
    c.new-recorder.ensures
    (c.in_ok-emit_suggestion_to_write_style.ensures.written.received stated)
    (c.in_ok-emit_suggestion_to_write_style.ensures.utf8 stated) c.in_ok-into_text.ensures.runs
