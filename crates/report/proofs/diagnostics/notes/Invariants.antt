use Rattle.codespan_core.proofs.Std.{◌≡◌, map, take, string_bytes}
use Rattle.report.proofs.diagnostics.notes.Given as goal

abbrev pub invariant-loop-note : goal.invariant-loop-note
invariant-loop-note l =
    map string_bytes l.notes.items ≡ map (λ note. note.now) (take l.note-index l.stated)
