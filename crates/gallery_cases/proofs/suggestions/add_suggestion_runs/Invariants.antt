use Rattle.std.proofs.Common.{◌≡◌, ◌++◌, take}
use Rattle.codespan_styled.specs.Runs.{styled_runs}
use Rattle.gallery_cases.specs.CaseOutputs.{AreNamed}
use Rattle.gallery_cases.specs.Documents.{suggestion_runs}
use Rattle.gallery_cases.proofs.suggestions.add_suggestion_runs.Given as goal

-- the runs of the suggestions so far have been appended
abbrev pub invariant-loop-suggestion : goal.invariant-loop-suggestion
invariant-loop-suggestion g l =
    let database = g.F.Files.database l.files in
    AreNamed database → styled_runs l.text
    ≡ styled_runs l.initial.text
    ++ suggestion_runs l.config database (take l.suggestion-index l.suggestions)
