use Rattle.std.proofs.Common.{◌≡◌, ◌++◌, drop, map, string_bytes}
use Rattle.std.specs.Prelude.{flat_map}
use Rattle.codespan_lsp.specs.Messages.{next_line, full_message}
use Rattle.codespan_lsp.proofs.messages.full_message.Given as goal

-- the notes still to come make the text whole
abbrev pub invariant-loop-note : goal.invariant-loop-note
invariant-loop-note g l =
    string_bytes l.text
    ++ flat_map next_line (map string_bytes (drop l.note-index l.diagnostic.notes.items))
    ≡ full_message l.diagnostic l.label
