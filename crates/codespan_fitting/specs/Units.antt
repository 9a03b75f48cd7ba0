-- Where the units of a text begin and end.
use Rattle.std.specs.Prelude.{ℕ, ◌+◌, nat_lt, if◌then◌else◌, List, [], ◌∷◌}
use Rattle.codespan_output.specs.FittedParts.{TextUnit}

-- the byte at which the unit of a byte begins, where the first of these units begins at `at`; of a
-- byte past them their end
abbrev pub start_of : ℕ → ℕ → List TextUnit → ℕ
start_of at byte [] = at
start_of at byte (u ∷ us) =
    if nat_lt byte (at + u.bytes) then at else start_of (at + u.bytes) byte us

-- the byte after the unit of a byte
abbrev pub end_of : ℕ → ℕ → List TextUnit → ℕ
end_of at byte [] = at
end_of at byte (u ∷ us) =
    if nat_lt byte (at + u.bytes) then at + u.bytes else end_of (at + u.bytes) byte us
