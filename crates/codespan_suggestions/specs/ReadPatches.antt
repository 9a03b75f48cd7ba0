-- How the rows of hunks are read from the text of a unified diff, by the numbers of their heads.
use Rattle.std.specs.Prelude.{ℕ, ◌+◌, ◌-◌, ◌==◌, Bool, if◌then◌else◌, List, [], ◌∷◌}
use Rattle.std.specs.Prelude.{◌++◌, slice_index_or}
use Rattle.std.specs.Str.Parse.{digits_value}
use Rattle.std.specs.Str.{byte}
use Rattle.codespan_edits.specs.Numbers.{NumberedRow, is_old, is_new, number_of, next_number}
use Rattle.codespan_edits.specs.declared.rows.RowSign.{RowSign}
use Rattle.codespan_suggestions.specs.ReadOutput.{text_rows, is_digit, sign_of_byte}

-- ---- one line

-- a line of a patch, without its newline: the start of a file, the head of a hunk with the numbers
-- of its first row, a row with its text, the mark after a line without newline, or another line
pub data PatchLine : Type 0 where
  FileStart : PatchLine
  HunkStart : ℕ → ℕ → PatchLine
  RowShown : RowSign → List ℕ → PatchLine
  NewlineMark : PatchLine
  OtherLine : PatchLine

-- the number of the digits that are held, if there are any
abbrev pub last_number : List ℕ → List ℕ
last_number [] = []
last_number (d ∷ ds) = digits_value 10 (d ∷ ds) ∷ []

-- the numbers in a text: those of the longest runs of digits, of which some are held
abbrev pub numbers_from : List ℕ → List ℕ → List ℕ
numbers_from held [] = last_number held
numbers_from held (b ∷ bs) =
    if is_digit b then numbers_from (held ++ b ∷ []) bs
    else last_number held ++ numbers_from [] bs

-- one of the four numbers of the head of a hunk
abbrev pub head_number : List ℕ → ℕ → ℕ
head_number head i = slice_index_or (numbers_from [] head) i 0

-- the number of the first row: that of the head, or one more where no row has one
abbrev pub first_number : ℕ → ℕ → ℕ
first_number number count = if count == 0 then number + 1 else number

-- one row less, if there is one of its text
abbrev pub one_less : Bool → ℕ → ℕ
one_less is_in n = if is_in then n - 1 else n

-- ---- all lines

-- lines of a patch, where so many old rows and so many new rows of a hunk are still to come: a
-- backslash is before a mark; a row is read until there are none; and else a line at the sign `@`
-- is the head of a hunk, and one at `-` starts a file
abbrev pub patch_lines : ℕ → ℕ → List (List ℕ) → List PatchLine
patch_lines old new [] = []
patch_lines old new ([] ∷ ls) = OtherLine ∷ patch_lines old new ls
patch_lines old new ((b ∷ bs) ∷ ls) =
    if b == byte "\\" then NewlineMark ∷ patch_lines old new ls
    else if old + new == 0 then
    (if b == byte "@" then
    HunkStart (first_number (head_number bs 0) (head_number bs 1))
    (first_number (head_number bs 2) (head_number bs 3))
    ∷ patch_lines (head_number bs 1) (head_number bs 3) ls
    else if b == byte "-" then FileStart ∷ patch_lines 0 0 ls else OtherLine ∷ patch_lines 0 0 ls)
    else
    RowShown (sign_of_byte b) bs
    ∷ patch_lines (one_less (is_old (sign_of_byte b)) old)
    (one_less (is_new (sign_of_byte b)) new) ls

-- a line by its text: it has a newline, unless a mark follows
abbrev pub line_before : List ℕ → List PatchLine → List ℕ
line_before text (NewlineMark ∷ xs) = text
line_before text _ = text ++ byte "\n" ∷ []

-- the rows of hunks up to the next start of a file, each with its numbers, where these come next
abbrev pub hunk_rows_read : ℕ → ℕ → List PatchLine → List NumberedRow
hunk_rows_read i j [] = []
hunk_rows_read i j (FileStart ∷ xs) = []
hunk_rows_read i j (HunkStart k l ∷ xs) = hunk_rows_read k l xs
hunk_rows_read i j (RowShown sign text ∷ xs) =
    record {
      row = record { sign = sign; line = line_before text xs };
      old_number = number_of (is_old sign) i;
      new_number = number_of (is_new sign) j;
    }
    ∷ hunk_rows_read (next_number (is_old sign) i) (next_number (is_new sign) j) xs
hunk_rows_read i j (NewlineMark ∷ xs) = hunk_rows_read i j xs
hunk_rows_read i j (OtherLine ∷ xs) = hunk_rows_read i j xs

-- the rows of the hunks of each file
abbrev pub patched_files : List PatchLine → List (List NumberedRow)
patched_files [] = []
patched_files (FileStart ∷ xs) = hunk_rows_read 1 1 xs ∷ patched_files xs
patched_files (_ ∷ xs) = patched_files xs

-- the rows of the hunks of each file of a patch
abbrev pub patch_read : List ℕ → List (List NumberedRow)
patch_read text = patched_files (patch_lines 0 0 (text_rows text))
