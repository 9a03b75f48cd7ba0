use Rattle.codespan_core.proofs.Std.{◌≡◌, map, take, string_bytes}
use Rattle.codespan_core.proofs.diagnostic.clones.clone_notes.Given as goal

abbrev pub invariant-loop-note : goal.invariant-loop-note
invariant-loop-note l =
    map string_bytes l.copies.items ≡ map string_bytes (take l.note-index l.notes.items)
