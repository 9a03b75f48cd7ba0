-- The numbers in the fields of a line.
use Rattle.std.specs.Prelude.{ℕ, List, Ok, Err}
use Rattle.std.specs.Str.Parse.{ParsesUnsigned}
use Rattle.gallery_cases.specs.declared.errors.LineError.{LineError}
use Rattle.gallery_cases.specs.declared.errors.LineError.TheVariants.{BadNumber}

-- the text is this number in decimal digits, which may follow a plus sign
abbrev pub IsNumber : List ℕ → ℕ → Type 0
IsNumber text n = ParsesUnsigned {E = LineError} 64 10 text (Ok n)

-- the text is not a number, or does not fit a `usize`
abbrev pub IsBadNumber : List ℕ → Type 0
IsBadNumber text = ParsesUnsigned {E = LineError} 64 10 text (Err BadNumber)
