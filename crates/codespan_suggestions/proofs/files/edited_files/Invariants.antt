use Rattle.codespan_core.proofs.Std.{◌≡◌, ◌++◌, drop, map}
use Rattle.codespan_suggestions.specs.EditedFiles.{edited_files}
use Rattle.codespan_suggestions.proofs.FileLemmas.{others}
use Rattle.codespan_suggestions.proofs.files.edited_files.Given as goal

-- the files so far and those of the edits left that are not among them are all files
abbrev pub invariant-loop-edit : goal.invariant-loop-edit
invariant-loop-edit g l =
    l.ids.items ++ others g.FileId.PartialEq.eq l.ids.items
    (map (λ edit. edit.file_id) (drop l.edit-index l.edits))
    ≡ edited_files g.FileId.PartialEq.eq l.edits
