use Rattle.codespan_styled.specs.Runs.{styled_runs}
use Rattle.gallery_cases.proofs.Runs.{stated_runs}
use Rattle.gallery_cases.proofs.rendering.runs_over.Goals as goal

pub returns : goal.returns
returns g c = λ named.
    stated_runs c.args.case.now.config (g.F.Files.database c.args.files.now) c.args.diagnostic.now
    c.args.suggestions.now (styled_runs c.in_ok-text.text)
    (styled_runs c.add_suggestion_runs.new.text) c.in_ok-text.ensures.ok named
    (c.in_ok-add_suggestion_runs.ensures named)
