use Rattle.std.proofs.Common.{◌≡◌, ◌++◌, take}
use Rattle.gallery_cases.specs.CaseOutputs.{AreNamed, suggestion_texts}
use Rattle.gallery_cases.proofs.suggestions.add_texts.Given as goal

-- the outputs of the suggestions so far have been appended
abbrev pub invariant-loop-suggestion : goal.invariant-loop-suggestion
invariant-loop-suggestion g l =
    let database = g.F.Files.database l.files in
    AreNamed database → l.output.items
    ≡ l.initial.output.items
    ++ suggestion_texts l.config database (take l.suggestion-index l.suggestions)
