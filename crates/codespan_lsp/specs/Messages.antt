-- The message of a diagnostic that a language server sends.
use Rattle.std.specs.Prelude.{ℕ, ◌==◌, if◌then◌else◌, List, ◌∷◌, ◌++◌, length}
use Rattle.std.specs.Prelude.{map, flat_map, string_bytes}
use Rattle.std.specs.Str.{byte}
use Rattle.codespan_base.specs.declared.diagnostic.Label.{Label}
use Rattle.codespan_base.specs.declared.diagnostic.Diagnostic.{Diagnostic}

-- a text on the next line
abbrev pub next_line : List ℕ → List ℕ
next_line text = byte "\n" ∷ text

-- the diagnostic's message, and that of the label on the next line, if it is not empty
abbrev pub joined_messages : {FileId : Type 0} → Diagnostic FileId → Label FileId → List ℕ
joined_messages d label =
    if length (string_bytes label.message) == 0 then string_bytes d.message
    else string_bytes d.message ++ next_line (string_bytes label.message)

-- the same, and then the notes, each on the next line
abbrev pub full_message : {FileId : Type 0} → Diagnostic FileId → Label FileId → List ℕ
full_message d label =
    joined_messages d label ++ flat_map next_line (map string_bytes d.notes.items)
