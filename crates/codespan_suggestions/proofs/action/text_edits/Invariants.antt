use Rattle.codespan_core.proofs.Std.{◌≡◌, ◌++◌, drop, map}
use Rattle.codespan_edits.specs.Edits.{ordered, text_edits}
use Rattle.codespan_lsp.specs.Positions.{first_failure}
use Rattle.codespan_suggestions.specs.CodeActions.{text_edit_view, text_edit_of, edit_failure}
use Rattle.codespan_suggestions.proofs.action.text_edits.Given as goal

-- the text edits so far and those of the edits left are all, and an error is of one of these
abbrev pub invariant-loop-index : goal.invariant-loop-index
invariant-loop-index g l =
    let database = g.F.Files.database l.files in
    let all = ordered (text_edits l.file.edits.items) in
    let left = drop l.index-index all in
    let made = text_edit_of l.encoding (database.file l.id) in
    let failure = edit_failure l.encoding (database.file l.id) (database.failure l.id) in
    record {
      edits : map text_edit_view l.found.items ++ map made left ≡ map made all;
      failed : first_failure (map failure all) ≡ first_failure (map failure left);
    }
