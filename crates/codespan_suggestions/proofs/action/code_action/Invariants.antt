use Rattle.codespan_core.proofs.Std.{◌≡◌, ◌++◌, List, drop, map}
use Rattle.codespan_suggestions.specs.CodeActions.{TextEditView, file_view, file_text_edits}
use Rattle.codespan_suggestions.specs.CodeActions.{action_file_fault, action_fault, action_of}
use Rattle.codespan_suggestions.specs.Faults.{first_fault}
use Rattle.codespan_suggestions.proofs.action.code_action.Given as goal

-- the files so far and those left are all, and a fault is with one of these
abbrev pub invariant-loop-id : goal.invariant-loop-id
invariant-loop-id g l =
    let database = g.F.Files.database l.files in
    let edits = l.suggestion.edits.items in
    let left = drop l.id-index l.id-items in
    record {
      files : map file_view l.edit.items
          ++ map {B = g.row.F-FileId.Denot × List TextEditView}
          (λ id. (id, file_text_edits l.encoding database edits id)) left
          ≡ (action_of l.encoding database l.suggestion).edit;
      fault : action_fault l.encoding database edits
          ≡ first_fault (map (action_file_fault l.encoding database edits) left);
    }
