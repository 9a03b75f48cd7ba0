-- Rows with numbers, as a patch of the lines of a text.
use Rattle.std.specs.Prelude.{◌≡◌, ℕ, ◌+◌, ◌-◌, Bool, true, ◌==◌, ◌&&◌}
use Rattle.std.specs.Prelude.{◌||◌, if◌then◌else◌, List, [], ◌∷◌, ◌++◌, take}
use Rattle.std.specs.Prelude.{drop, length, Option, Some, None, option_map, option_and_then}
use Rattle.std.specs.Option.{option_map_or}
use Rattle.std.specs.Str.{bytes_eq}
use Rattle.codespan_edits.specs.Edits.{TextEdit, edited}
use Rattle.codespan_edits.specs.Faults.{fault}
use Rattle.codespan_edits.specs.Diffs.{Row, lines, diff_rows}
use Rattle.codespan_edits.specs.Numbers.{is_old, is_new, next_number, NumberedRow, numbered}
use Rattle.codespan_edits.specs.DiffLaws.{is_changed}

-- how far a patch is: the lines that it has written, how many old lines it has passed, and those
-- that are left
pub record Patching : Type 0 where
  pub written : List (List ℕ)
  pub passed : ℕ
  pub left : List (List ℕ)

-- the next old lines are copied
abbrev pub copy : ℕ → Patching → Patching
copy n p = record {
  written = p.written ++ take n p.left;
  passed = p.passed + n;
  left = drop n p.left;
}

-- how many lines come before the row: by its old number, or else by its new one
abbrev pub lines_before : NumberedRow → Patching → ℕ
lines_before r p =
    option_map_or (λ n. n - (p.passed + 1)) r.old_number
    (option_map_or (λ n. n - (length p.written + 1)) r.new_number 0)

-- whether each number that the row has is that of the next line
abbrev pub is_next : NumberedRow → Patching → Bool
is_next r p =
    option_map_or (λ n. n == p.passed + 1) r.old_number true
    && option_map_or (λ n. n == length p.written + 1) r.new_number true

-- the lines that follow the first one, if it is this one
abbrev pub after_line : List ℕ → List (List ℕ) → Option (List (List ℕ))
after_line line [] = None
after_line line (l ∷ ls) = if bytes_eq l line then Some ls else None

-- an old row passes the next line, which has to be its own, and a new one writes its line
abbrev pub take_row : Row → Patching → Option Patching
take_row r p =
    option_map (λ ls. record {
      written = if is_new r.sign then p.written ++ r.line ∷ [] else p.written;
      passed = next_number (is_old r.sign) p.passed;
      left = ls;
    })
    (if is_old r.sign then after_line r.line p.left else Some p.left)

-- the lines before the row are copied, and the row is taken where its numbers come next
abbrev pub patch_row : NumberedRow → Patching → Option Patching
patch_row r p =
    let q = copy (lines_before r p) p in if is_next r q then take_row r.row q else None

-- all rows are taken, and the lines that are left are copied
abbrev pub patch_rows : List NumberedRow → Patching → Option (List (List ℕ))
patch_rows [] p = Some (p.written ++ p.left)
patch_rows (r ∷ rs) p = option_and_then (patch_rows rs) (patch_row r p)

-- what rows make of the lines of a text, or nothing where they do not fit it
abbrev pub patched : List (List ℕ) → List NumberedRow → Option (List (List ℕ))
patched ls rows = patch_rows rows (record { written = []; passed = 0; left = ls })

-- the rows that are shown: the removed and added ones, and those at indices that a test picks
abbrev pub shown_from : (ℕ → Bool) → ℕ → List NumberedRow → List NumberedRow
shown_from picks k [] = []
shown_from picks k (r ∷ rs) =
    if is_changed r.row.sign || picks k then r ∷ shown_from picks (k + 1) rs
    else shown_from picks (k + 1) rs

-- whichever kept rows of a diff are shown with the others, they are a patch that makes the lines of
-- the text after the edits of those of the source
abbrev pub ShownRowsArePatch : Type 0
ShownRowsArePatch = (text : List ℕ) (edits : List TextEdit) (picks : ℕ → Bool)
    → fault text edits ≡ None
    → patched (lines text) (shown_from picks 0 (numbered (diff_rows text edits)))
    ≡ Some (lines (edited text edits))
