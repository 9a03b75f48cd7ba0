use Rattle.codespan_core.proofs.Std.{◌≡◌, ◌++◌, drop, map, filter}
use Rattle.codespan_edits.specs.RowViews.{context_view}
use Rattle.codespan_suggestions.specs.DrawnFiles.{NamesAreStated, drawn_file, drawn_files, has_hunk}
use Rattle.codespan_suggestions.specs.NamedFiles.{named_file_fault, named_files_fault}
use Rattle.codespan_suggestions.specs.Faults.{first_fault}
use Rattle.codespan_suggestions.specs.EditedFiles.{edited_files}
use Rattle.codespan_suggestions.specs.Private.FileViews.{file_view}
use Rattle.codespan_suggestions.proofs.drawn_files.draw_files.Given as goal

-- the files so far and those left that are shown are all, and a fault is with one of these
abbrev pub invariant-loop-id : goal.invariant-loop-id
invariant-loop-id g l =
    let database = g.F.Files.database l.files in
    let context = context_view l.context in
    let left = drop l.id-index l.id-items in
    record {
      ids : l.id-items ≡ edited_files database.same l.edits;
      files : NamesAreStated database l.edits
          → map file_view l.kept.items
          ++ filter has_hunk (map (drawn_file context database l.edits) left)
          ≡ drawn_files context database l.edits;
      fault : named_files_fault database l.edits
          ≡ first_fault (map (named_file_fault database l.edits) left);
    }
