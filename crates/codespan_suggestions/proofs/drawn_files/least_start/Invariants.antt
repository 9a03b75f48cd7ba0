use Rattle.codespan_core.proofs.Std.{◌≡◌, take}
use Rattle.codespan_edits.specs.Edits.{text_edits}
use Rattle.codespan_suggestions.specs.DrawnFiles.{least_start}
use Rattle.codespan_suggestions.proofs.drawn_files.least_start.Given as goal

-- the least start of the edits so far
abbrev pub invariant-loop-edit : goal.invariant-loop-edit
invariant-loop-edit g l = l.least ≡ least_start (text_edits (take l.edit-index l.edits))
