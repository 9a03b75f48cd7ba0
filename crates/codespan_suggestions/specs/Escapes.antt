-- A text as it is inside a string literal of C.
use Rattle.std.specs.Prelude.{ℕ, ◌+◌, ◌/◌, ◌%◌, ◌==◌, ◌&&◌, nat_le}
use Rattle.std.specs.Prelude.{if◌then◌else◌, List, [], ◌∷◌, ◌++◌, flat_map, codes}
use Rattle.std.specs.Str.{byte}

-- a byte by three octal digits, after a backslash
abbrev pub octal_escape : ℕ → List ℕ
octal_escape b =
    byte "\\" ∷ (byte "0" + b / 64) ∷ (byte "0" + b / 8 % 8) ∷ (byte "0" + b % 8) ∷ []

-- a byte: after a backslash, or by its number, where it cannot stand for itself
abbrev pub escaped_byte : ℕ → List ℕ
escaped_byte b =
    if b == byte "\\" then codes "\\\\" else if b == byte "\"" then codes "\\\""
    else if b == byte "\t" then codes "\\t" else if b == byte "\n" then codes "\\n"
    else if nat_le (byte " ") b && nat_le b (byte "~") then b ∷ []
    else octal_escape b

-- a text
abbrev pub escaped : List ℕ → List ℕ
escaped = flat_map escaped_byte

-- a text between quotation marks
abbrev pub quoted : List ℕ → List ℕ
quoted text = codes "\"" ++ (escaped text ++ codes "\"")
