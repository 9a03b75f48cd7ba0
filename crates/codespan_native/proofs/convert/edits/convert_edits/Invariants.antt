use Rattle.std.proofs.Common.{◌≡◌, map, take}
use Rattle.codespan_edits.specs.Edits.{text_edit}
use Rattle.codespan_native.specs.EditCalls.{raw_text_edit}
use Rattle.codespan_native.proofs.convert.edits.convert_edits.Given as goal

-- the edits so far
abbrev pub invariant-loop-edit : goal.invariant-loop-edit
invariant-loop-edit l =
    map text_edit l.edits.items ≡ map raw_text_edit (take l.edit-index l.raw)
