-- The statuses of a call, by their numbers in the header. The first three are those of valid
-- arguments, the last two those of invalid ones.
use Rattle.std.specs.Prelude.{ℕ}

-- the output was written
abbrev pub OK : ℕ
OK = 0

-- the output does not fit into the caller's buffer
abbrev pub TOO_SMALL : ℕ
TOO_SMALL = 1

-- an allocation failed
abbrev pub OUT_OF_MEMORY : ℕ
OUT_OF_MEMORY = 2

-- the first invalid argument is the file of a label
abbrev pub FILE_MISSING : ℕ
FILE_MISSING = 3

-- the first invalid argument is another one
abbrev pub INVALID : ℕ
INVALID = 4
