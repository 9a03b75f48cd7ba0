-- The characters of a text one after another, and the units that they make.
use Rattle.std.specs.Prelude.{ℕ, ◌≡◌, ◌+◌, ◌-◌, ◌<◌, ◌≤◌, Bool, ◌==◌}
use Rattle.std.specs.Prelude.{nat_le, if◌then◌else◌, List, [], ◌∷◌, ◌++◌, length}
use Rattle.std.specs.Prelude.{take, drop, suc, ⊤, slice_index}
use Rattle.std.specs.Str.{chars, IsUtf8}
use Rattle.std.specs.Char.{len_utf8}
use Rattle.codespan_output.specs.FittedParts.{TextUnit, cells_at_most, count_before, count_within}
use Rattle.codespan_output.specs.FittedParts.{units_of}

-- the byte at this index is a printable character of ASCII
abbrev pub IsPrintableAt : List ℕ → ℕ → Type 0
IsPrintableAt bytes k = (32 ≤ slice_index bytes k) × (slice_index bytes k ≤ 126)

-- ---- where a loop over characters is

-- `rest` is what follows byte `at` of the text
pub record IsAhead (text : List ℕ) (at : ℕ) (rest : List ℕ) : Type 0 where
  pub utf8 : IsUtf8 rest
  pub rest_is : drop at text ≡ rest
  pub within : at + length rest ≡ length text

-- `before` is what comes before byte `at` of the text
pub record IsBehind (text : List ℕ) (at : ℕ) (before : List ℕ) : Type 0 where
  pub utf8 : IsUtf8 before
  pub before_is : take at text ≡ before
  pub length_is : length before ≡ at
  pub within : at ≤ length text

-- ---- units

-- the units of a text
abbrev pub text_units : ℕ → List ℕ → List TextUnit
text_units tab text = units_of tab (chars text)

-- the first of these units, that have at most so many cells together
abbrev pub first_within : ℕ → List TextUnit → List TextUnit
first_within cells us = take (count_within cells us) us

-- these units without the last ones, that have at most so many cells together
abbrev pub before_last : ℕ → List TextUnit → List TextUnit
before_last cells us = take (count_before cells us) us

-- the last of these units, that have at most so many cells together
abbrev pub last_within : ℕ → List TextUnit → List TextUnit
last_within cells us = drop (count_before cells us) us

-- how many of the first units of a gap are kept, where a needed unit is before them
abbrev pub first_count : Bool → ℕ → List TextUnit → ℕ
first_count is_after radius us = if is_after then count_within radius us else 0

-- how many units of a gap are before the last ones that are kept, where a needed unit is after them
abbrev pub last_count : Bool → ℕ → List TextUnit → ℕ
last_count is_before radius us = if is_before then count_before radius us else length us

-- ---- the same by characters

-- the bytes of these characters
abbrev pub char_bytes : List ℕ → ℕ
char_bytes [] = 0
char_bytes (c ∷ cs) = len_utf8 c + char_bytes cs

-- the cells of these characters
abbrev pub char_cells : ℕ → List ℕ → ℕ
char_cells tab [] = 0
char_cells tab (c ∷ cs) = cells_at_most tab c + char_cells tab cs

-- how many of these characters have cells, and so begin units
abbrev pub begun_units : ℕ → List ℕ → ℕ
begun_units tab [] = 0
begun_units tab (c ∷ cs) =
    if cells_at_most tab c == 0 then begun_units tab cs else suc (begun_units tab cs)

-- these characters are none, or the first one has cells
abbrev pub BeginsUnit : ℕ → List ℕ → Type 0
BeginsUnit tab [] = ⊤
BeginsUnit tab (c ∷ cs) = 0 < cells_at_most tab c

-- none of these characters has cells
abbrev pub HaveNoCells : ℕ → List ℕ → Type 0
HaveNoCells tab [] = ⊤
HaveNoCells tab (c ∷ cs) = (cells_at_most tab c ≡ 0) × HaveNoCells tab cs

-- of these characters a loop from the last one on has still `before` to read; it has passed whole
-- units from byte `start` on, of `spent` cells together, and characters without cells before them
pub record IsPassed (tab : ℕ) (cs before : List ℕ) (start spent : ℕ) : Type 0 where
  pub joined : List ℕ
  pub passed : List ℕ
  pub split : cs ≡ before ++ (joined ++ passed)
  pub joins : HaveNoCells tab joined
  pub begins : BeginsUnit tab passed
  pub start_is : char_bytes (before ++ joined) ≡ start
  pub spent_is : char_cells tab passed ≡ spent

-- the bytes of the first of these characters, that have at most so many cells together
abbrev pub bytes_within : ℕ → ℕ → List ℕ → ℕ
bytes_within tab left [] = 0
bytes_within tab left (c ∷ cs) =
    if nat_le (cells_at_most tab c) left
    then len_utf8 c + bytes_within tab (left - cells_at_most tab c) cs else 0

-- their cells
abbrev pub cells_within : ℕ → ℕ → List ℕ → ℕ
cells_within tab left [] = 0
cells_within tab left (c ∷ cs) =
    if nat_le (cells_at_most tab c) left
    then cells_at_most tab c + cells_within tab (left - cells_at_most tab c) cs else 0
