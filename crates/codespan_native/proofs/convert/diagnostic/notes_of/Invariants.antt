use Rattle.std.proofs.Common.{◌≡◌, map, take, string_bytes}
use Rattle.codespan_native.specs.Converted.{bytes_of}
use Rattle.codespan_native.proofs.convert.diagnostic.notes_of.Given as goal

-- the notes so far
abbrev pub invariant-loop-note : goal.invariant-loop-note
invariant-loop-note l = map string_bytes l.notes.items ≡ map bytes_of (take l.note-index l.raw)
