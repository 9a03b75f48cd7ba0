use Rattle.codespan_core.proofs.Std.{◌≡◌, map, take}
use Rattle.codespan_suggestions.specs.Views.{edit_view}
use Rattle.codespan_suggestions.proofs.clones.clone_edits.Given as goal

abbrev pub invariant-loop-edit : goal.invariant-loop-edit
invariant-loop-edit g l =
    map edit_view l.copies.items ≡ map edit_view (take l.edit-index l.edits.items)
