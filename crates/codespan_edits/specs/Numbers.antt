-- The numbers of the lines that rows have.
use Rattle.std.specs.Prelude.{ℕ, ◌+◌, Bool, true, false, if◌then◌else◌, List, []}
use Rattle.std.specs.Prelude.{◌∷◌, Option, Some, None}
use Rattle.codespan_edits.specs.Diffs.{Row}
use Rattle.codespan_edits.specs.declared.rows.RowSign.{RowSign}
use Rattle.codespan_edits.specs.declared.rows.RowSign.TheVariants.{Kept, Removed, Added}

-- whether a row's line is in the old text, and whether it is in the new one
abbrev pub is_old : RowSign → Bool
is_old Kept = true
is_old Removed = true
is_old Added = false

abbrev pub is_new : RowSign → Bool
is_new Kept = true
is_new Removed = false
is_new Added = true

-- the number of a line that is in a text, where this one comes next
abbrev pub number_of : Bool → ℕ → Option ℕ
number_of is_in n = if is_in then Some n else None

-- and the number that comes next after it
abbrev pub next_number : Bool → ℕ → ℕ
next_number is_in n = if is_in then n + 1 else n

-- a row with the numbers of its line in the old text and in the new one
pub record NumberedRow : Type 0 where
  pub row : Row
  pub old_number : Option ℕ
  pub new_number : Option ℕ

-- rows with their numbers, where these come next
abbrev pub numbered_from : ℕ → ℕ → List Row → List NumberedRow
numbered_from i j [] = []
numbered_from i j (r ∷ rs) =
    (record {
      row = r;
      old_number = number_of (is_old r.sign) i;
      new_number = number_of (is_new r.sign) j;
    })
    ∷ numbered_from (next_number (is_old r.sign) i) (next_number (is_new r.sign) j) rs

-- rows with their numbers: 1, and one for each row before that is in the same text
abbrev pub numbered : List Row → List NumberedRow
numbered = numbered_from 1 1
