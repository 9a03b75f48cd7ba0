use Rattle.codespan_core.proofs.Std.{◌≡◌, ◌++◌, drop, map, filter, enumerate_from}
use Rattle.codespan_edits.specs.Edits.{text_edit, text_edits}
use Rattle.codespan_suggestions.specs.EditedFiles.{edits_of_file, indices_of_file}
use Rattle.codespan_suggestions.proofs.files.edits_of_file.Given as goal

-- the file's edits so far and those among the edits left are all
abbrev pub invariant-loop-index : goal.invariant-loop-index
invariant-loop-index g l =
    let same = g.FileId.PartialEq.eq in
    let left =
    filter (λ x. same l.file_id x.1.file_id) (enumerate_from l.index (drop l.index l.edits)) in
    record {
      edits : text_edits l.found.edits.items ++ map (λ x. text_edit x.1) left
          ≡ edits_of_file same l.edits l.file_id;
      indices : l.found.indices.items ++ map (λ x. x.0) left
          ≡ indices_of_file same l.edits l.file_id;
    }
