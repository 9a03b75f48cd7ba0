use Rattle.codespan_core.proofs.Std.{◌≤◌, ◌-◌, length}
use Rattle.codespan_views.specs.Private.{ids_view, index_of_file}
use Rattle.codespan_views.proofs.labeled_files.find_file.Given as goal

-- no file before this one is of the id
abbrev pub invariant-loop-index : goal.invariant-loop-index
invariant-loop-index g l = l.index ≤ index_of_file g.FileId.PartialEq.eq (ids_view l.files) l.id

abbrev pub decreases-loop-index : goal.decreases-loop-index
decreases-loop-index g l = length l.files - l.index
