-- Set line numbers: pairs of a line index and a number, in the order of the line indices.
use Rattle.std.specs.Prelude.{◌≡◌, ℕ, ◌<◌, ◌≤◌, List, map, length, slice_index_or}
use Rattle.codespan_base.specs.declared.files.mapped.SetNumber.{SetNumber}

-- a set number as such a pair
abbrev pub set_number_view : SetNumber → ℕ × ℕ
set_number_view set_number = (set_number.line_index, set_number.number)

-- set numbers as such pairs
abbrev pub set_number_views : List SetNumber → List (ℕ × ℕ)
set_number_views set_numbers = map set_number_view set_numbers

-- the line index of the set number at a position of the list
abbrev pub line_index_at : List (ℕ × ℕ) → ℕ → ℕ
line_index_at set_numbers position =
    let set_number = slice_index_or set_numbers position (0, 0) in set_number.0

-- the line indices ascend strictly
abbrev pub IsStrictlySorted : List (ℕ × ℕ) → Type 0
IsStrictlySorted set_numbers =
    (i j : ℕ) → i < j → j < length set_numbers
    → line_index_at set_numbers i < line_index_at set_numbers j

-- the set number at this position has this line index
pub record IsSetAt (set_numbers : List (ℕ × ℕ)) (index position : ℕ) : Type 0 where
  pub in_range : position < length set_numbers
  pub has_index : line_index_at set_numbers position ≡ index

-- a number of this line index would be inserted at this position: smaller indices are before it,
-- and greater ones from it on
pub record IsInsertionPoint (set_numbers : List (ℕ × ℕ)) (index position : ℕ) : Type 0 where
  pub in_range : position ≤ length set_numbers
  pub smaller_before : (j : ℕ) → j < position → line_index_at set_numbers j < index
  pub greater_after : (j : ℕ) → position ≤ j → j < length set_numbers
      → index < line_index_at set_numbers j
