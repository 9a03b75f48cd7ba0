use Rattle.codespan_core.proofs.Std.{◌≡◌, ◌++◌, take, string_bytes}
use Rattle.codespan_suggestions.specs.Escapes.{escaped}
use Rattle.codespan_suggestions.proofs.escapes.push_escaped.Given as goal

-- the bytes so far are appended
abbrev pub invariant-loop-byte : goal.invariant-loop-byte
invariant-loop-byte l =
    string_bytes l.output ≡ string_bytes l.initial.output
    ++ escaped (take l.byte-index l.byte-items)
