-- The fields of a line.
use Rattle.std.specs.Prelude.{ℕ, ◌==◌, Bool, true, List, [], ◌∷◌}
use Rattle.std.specs.List.{before_first, after_first}

-- whether a byte is the space, at which a line is cut into fields
abbrev pub is_space : ℕ → Bool
is_space b = b == 32

-- the first field of a text: what precedes its first space, or all of it
abbrev pub field_of : List ℕ → List ℕ
field_of text = before_first is_space text

-- what follows the first space of a text, or nothing
abbrev pub past_space : List ℕ → List ℕ
past_space text = after_first is_space text

-- whether a line is ignored, by its text: it is empty or begins with `#`
abbrev pub is_ignored_text : List ℕ → Bool
is_ignored_text [] = true
is_ignored_text (b ∷ bs) = b == 35
