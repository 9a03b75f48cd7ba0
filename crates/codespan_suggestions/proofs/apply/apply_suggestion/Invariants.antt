use Rattle.codespan_core.proofs.Std.{◌≡◌, ◌++◌, drop, map}
use Rattle.codespan_suggestions.specs.EditedFiles.{edited_text, edited_texts, texts_view}
use Rattle.codespan_suggestions.specs.Faults.{file_fault, first_fault, suggestion_fault}
use Rattle.codespan_suggestions.proofs.apply.apply_suggestion.Given as goal

-- the texts so far and those of the files left are all, and a fault is with one of these
abbrev pub invariant-loop-id : goal.invariant-loop-id
invariant-loop-id g l =
    let database = g.F.Files.database l.files in
    let edits = l.suggestion.edits.items in
    let left = drop l.id-index l.id-items in
    record {
      texts : texts_view l.texts ++ map (λ id. (id, edited_text database edits id)) left
          ≡ edited_texts database edits;
      fault : suggestion_fault database edits
          ≡ first_fault (map (file_fault database edits) left);
    }
