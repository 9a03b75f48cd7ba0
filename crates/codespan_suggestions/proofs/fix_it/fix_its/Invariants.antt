use Rattle.codespan_core.proofs.Std.{◌≡◌, map, drop, take, string_bytes}
use Rattle.codespan_suggestions.specs.Faults.{first_fault}
use Rattle.codespan_suggestions.specs.NamedFiles.{named_file_fault, named_files_fault}
use Rattle.codespan_suggestions.proofs.NamedParts.{HasParts}
use Rattle.codespan_suggestions.specs.FixIts.{file_fix_its}
use Rattle.codespan_suggestions.proofs.fix_it.fix_its.Given as goal

-- the fix-its of the files so far are in the text, and a fault is with one of the files left
abbrev pub invariant-loop-id : goal.invariant-loop-id
invariant-loop-id g l =
    let database = g.F.Files.database l.files in
    let edits = l.suggestion.edits.items in
    record {
      parts : HasParts database (file_fix_its database edits) (take l.id-index l.id-items)
          (string_bytes l.text);
      fault : named_files_fault database edits
          ≡ first_fault (map (named_file_fault database edits) (drop l.id-index l.id-items));
    }
