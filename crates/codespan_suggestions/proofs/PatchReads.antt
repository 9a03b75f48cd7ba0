-- The lines of a unified diff, as they are read, for the clause of
-- `laws::unified_diffs_are_patches`.
use Rattle.codespan_core.proofs.Std.{◌≡◌, ◌∙◌, ℕ, ◌+◌, ◌-◌, ◌<◌, ◌==◌, Bool}
use Rattle.codespan_core.proofs.Std.{true, false, if◌then◌else◌, List, [], ◌∷◌, ◌++◌, length, map}
use Rattle.codespan_core.proofs.Std.{flat_map, take, filter, refl, sym, ap, ap₂, arith}
use Rattle.codespan_core.proofs.Std.{codes, append_assoc, AllByRecursion, nat_tests}
use Rattle.codespan_core.proofs.Std.{◌⊎◌, inl, inr}
use Rattle.codespan_edits.specs.Diffs.{Row, is_whole}
use Rattle.codespan_edits.specs.DiffLaws.{lines_with}
use Rattle.codespan_edits.specs.Numbers.{NumberedRow, numbered_from, is_old, is_new, number_of}
use Rattle.codespan_edits.specs.Numbers.{next_number}
use Rattle.codespan_edits.specs.declared.rows.RowSign.{RowSign}
use Rattle.codespan_edits.specs.declared.rows.RowSign.TheVariants.{Kept, Removed, Added}
use Rattle.codespan_suggestions.specs.UnifiedDiffs.{old_numbers, new_numbers, sign_byte}
use Rattle.codespan_suggestions.specs.ReadPatches.{PatchLine, one_less, patch_lines}
use Rattle.codespan_suggestions.specs.ReadPatches.{line_before}
use Rattle.codespan_suggestions.specs.ReadPatches.{hunk_rows_read}
use Rattle.codespan_suggestions.specs.ReadPatches.PatchLine.{RowShown}
use Rattle.codespan_suggestions.specs.ReadPatches.PatchLine.{NewlineMark}
use Rattle.codespan_suggestions.proofs.ReadTexts.{IsLine}
use Rattle.codespan_suggestions.proofs.PatchTexts.{row_lines, whole-last, before-last}
use Rattle.codespan_suggestions.proofs.PatchTexts.{first_of}

-- ---- counts

-- how many of some rows are in a text
abbrev pub count_in : (RowSign → Bool) → List Row → ℕ
count_in test rows = length (lines_with test rows)

abbrev pub row_of : RowSign → List ℕ → Row
row_of sign line = record { sign = sign; line = line }

pub less-one : (test : RowSign → Bool) (sign : RowSign) (line : List ℕ) (rows : List Row)
    → one_less (test sign) (count_in test (row_of sign line ∷ rows)) ≡ count_in test rows
less-one test sign line rows = by (test sign) where
  by : (b : Bool)
      → one_less b (length (map (λ (r : Row). r.line)
      (if b then row_of sign line ∷ filter (λ (r : Row). test r.sign) rows
      else filter (λ (r : Row). test r.sign) rows)))
      ≡ count_in test rows
  by true = omega arith
  by false = refl

some-in : (sign : RowSign) (line : List ℕ) (rows : List Row)
    → 0 < count_in is_old (row_of sign line ∷ rows) + count_in is_new (row_of sign line ∷ rows)
some-in Kept line rows = omega arith
some-in Removed line rows = omega arith
some-in Added line rows = omega arith

-- ---- rows

-- what the lines of a row are read as
abbrev pub row_reads : Row → List PatchLine
row_reads r =
    if is_whole r.line then RowShown r.sign (take (length r.line - 1) r.line) ∷ []
    else RowShown r.sign r.line ∷ (NewlineMark ∷ [])

pub row-step : (sign : RowSign) (line : List ℕ) (old new : ℕ) (rest : List (List ℕ))
    → 0 < old + new
    → patch_lines old new (row_lines (row_of sign line) ++ rest)
    ≡ row_reads (row_of sign line)
    ++ patch_lines (one_less (is_old sign) old) (one_less (is_new sign) new) rest
row-step sign line old new rest some =
    by sign (is_whole line) (let e : (old + new == 0) ≡ false = grind (arith, nat_tests, some) in e)
  where
    by : (sign : RowSign) (t : Bool) → (old + new == 0) ≡ false
        → patch_lines old new
        ((if t then (sign_byte sign ∷ take (length line - 1) line) ∷ []
        else (sign_byte sign ∷ line) ∷ (codes "\\ No newline at end of file" ∷ [])) ++ rest)
        ≡ (if t then RowShown sign (take (length line - 1) line) ∷ []
        else RowShown sign line ∷ (NewlineMark ∷ []))
        ++ patch_lines (one_less (is_old sign) old) (one_less (is_new sign) new) rest
    by Kept true more = rw more refl
    by Kept false more = rw more refl
    by Removed true more = rw more refl
    by Removed false more = rw more refl
    by Added true more = rw more refl
    by Added false more = rw more refl

pub rows-step : (rows : List Row) (rest : List (List ℕ))
    → patch_lines (count_in is_old rows) (count_in is_new rows) (flat_map row_lines rows ++ rest)
    ≡ flat_map row_reads rows ++ patch_lines 0 0 rest
rows-step [] rest = refl
rows-step (r ∷ rs) rest =
    let old = count_in is_old (r ∷ rs) in
    let new = count_in is_new (r ∷ rs) in
    ap (patch_lines old new) (append_assoc (row_lines r) (flat_map row_lines rs) rest)
    ∙ (row-step r.sign r.line old new (flat_map row_lines rs ++ rest) (some-in r.sign r.line rs)
    ∙ (ap₂ (λ (m n : ℕ). row_reads r ++ patch_lines m n (flat_map row_lines rs ++ rest))
    (less-one is_old r.sign r.line rs) (less-one is_new r.sign r.line rs)
    ∙ (ap (λ xs. row_reads r ++ xs) (rows-step rs rest)
    ∙ sym (append_assoc (row_reads r) (flat_map row_reads rs) (patch_lines 0 0 rest)))))

-- no mark comes next, and numbers begin anew
pub record Restarts (xs : List PatchLine) : Type 0 where
  pub unmarked : (text : List ℕ) → line_before text xs ≡ text ++ 10 ∷ []
  pub anew : (i j : ℕ) → hunk_rows_read i j xs ≡ hunk_rows_read 1 1 xs

rows-unmarked : (rows : List Row) (xs : List PatchLine) → Restarts xs → (text : List ℕ)
    → line_before text (flat_map row_reads rows ++ xs) ≡ text ++ 10 ∷ []
rows-unmarked [] xs ends text = ends.unmarked text
rows-unmarked (r ∷ rs) xs ends text = by (is_whole r.line) where
  by : (t : Bool)
      → line_before text
      (((if t then RowShown r.sign (take (length r.line - 1) r.line) ∷ []
      else RowShown r.sign r.line ∷ (NewlineMark ∷ [])) ++ flat_map row_reads rs) ++ xs)
      ≡ text ++ 10 ∷ []
  by true = refl
  by false = refl

whole-line : (line : List ℕ) → IsLine line → is_whole line ≡ true
    → take (length line - 1) line ++ 10 ∷ [] ≡ line
whole-line line is whole =
    let xs = is.before in
    let z = is.last in
    let last : (z == 10) ≡ true = sym (whole-last xs z) ∙ (ap is_whole (sym is.is) ∙ whole) in
    let code : z ≡ 10 = grind (arith, nat_tests, last) in
    ap (λ ys. take (length ys - 1) ys ++ 10 ∷ []) is.is
    ∙ (ap (λ ys. ys ++ 10 ∷ []) (before-last xs z)
    ∙ (ap (λ (y : ℕ). xs ++ y ∷ []) (sym code) ∙ sym is.is))

-- a row as it is read, where these numbers come next
abbrev pub numbered_row : ℕ → ℕ → RowSign → List ℕ → NumberedRow
numbered_row i j sign line = record {
  row = row_of sign line;
  old_number = number_of (is_old sign) i;
  new_number = number_of (is_new sign) j;
}

row-back : (i j : ℕ) (sign : RowSign) (line : List ℕ) (xs : List PatchLine) → IsLine line
    → ((text : List ℕ) → line_before text xs ≡ text ++ 10 ∷ [])
    → hunk_rows_read i j (row_reads (row_of sign line) ++ xs)
    ≡ numbered_row i j sign line
    ∷ hunk_rows_read (next_number (is_old sign) i) (next_number (is_new sign) j) xs
row-back i j sign line xs is unmarked = by (is_whole line) refl where
  by : (t : Bool) → is_whole line ≡ t
      → hunk_rows_read i j
      ((if t then RowShown sign (take (length line - 1) line) ∷ []
      else RowShown sign line ∷ (NewlineMark ∷ [])) ++ xs)
      ≡ numbered_row i j sign line
      ∷ hunk_rows_read (next_number (is_old sign) i) (next_number (is_new sign) j) xs
  by true whole =
      ap (λ (l : List ℕ). numbered_row i j sign l
      ∷ hunk_rows_read (next_number (is_old sign) i) (next_number (is_new sign) j) xs)
      (unmarked (take (length line - 1) line) ∙ whole-line line is whole)
  by false part = refl

pub rows-back : (rows : List Row) (i j : ℕ) (xs : List PatchLine)
    → AllByRecursion (λ (r : Row). IsLine r.line) rows → Restarts xs
    → hunk_rows_read i j (flat_map row_reads rows ++ xs)
    ≡ numbered_from i j rows ++ hunk_rows_read 1 1 xs
rows-back [] i j xs all ends = ends.anew i j
rows-back (r ∷ rs) i j xs all ends =
    let i2 = next_number (is_old r.sign) i in
    let j2 = next_number (is_new r.sign) j in
    ap (hunk_rows_read i j) (append_assoc (row_reads r) (flat_map row_reads rs) xs)
    ∙ (row-back i j r.sign r.line (flat_map row_reads rs ++ xs) all.0 (rows-unmarked rs xs ends)
    ∙ ap (λ ys. numbered_row i j r.sign r.line ∷ ys) (rows-back rs i2 j2 xs all.1 ends))

-- ---- hunks

-- the numbers of rows: as many as there are lines, from the first one on
pub old-numbers : (i j : ℕ) (rows : List Row)
    → length (old_numbers (numbered_from i j rows)) ≡ count_in is_old rows
old-numbers i j [] = refl
old-numbers i j (r ∷ rs) =
    by r.sign r.line (old-numbers (i + 1) (j + 1) rs) (old-numbers (i + 1) j rs)
    (old-numbers i (j + 1) rs)
  where
    by : (sign : RowSign) (line : List ℕ)
        → length (old_numbers (numbered_from (i + 1) (j + 1) rs)) ≡ count_in is_old rs
        → length (old_numbers (numbered_from (i + 1) j rs)) ≡ count_in is_old rs
        → length (old_numbers (numbered_from i (j + 1) rs)) ≡ count_in is_old rs
        → length (old_numbers (numbered_from i j (row_of sign line ∷ rs)))
        ≡ count_in is_old (row_of sign line ∷ rs)
    by Kept line both left right = omega (arith, both)
    by Removed line both left right = omega (arith, left)
    by Added line both left right = right

pub new-numbers : (i j : ℕ) (rows : List Row)
    → length (new_numbers (numbered_from i j rows)) ≡ count_in is_new rows
new-numbers i j [] = refl
new-numbers i j (r ∷ rs) =
    by r.sign r.line (new-numbers (i + 1) (j + 1) rs) (new-numbers (i + 1) j rs)
    (new-numbers i (j + 1) rs)
  where
    by : (sign : RowSign) (line : List ℕ)
        → length (new_numbers (numbered_from (i + 1) (j + 1) rs)) ≡ count_in is_new rs
        → length (new_numbers (numbered_from (i + 1) j rs)) ≡ count_in is_new rs
        → length (new_numbers (numbered_from i (j + 1) rs)) ≡ count_in is_new rs
        → length (new_numbers (numbered_from i j (row_of sign line ∷ rs)))
        ≡ count_in is_new (row_of sign line ∷ rs)
    by Kept line both left right = omega (arith, both)
    by Removed line both left right = left
    by Added line both left right = omega (arith, right)

pub first-old : (i j : ℕ) (rows : List Row)
    → ((first_of (old_numbers (numbered_from i j rows)) ≡ i)
    × (0 < length (old_numbers (numbered_from i j rows))))
    ⊎ ((old_numbers (numbered_from i j rows) ≡ []) × ((k : ℕ)
    → numbered_from i j rows ≡ numbered_from k j rows))
first-old i j [] = inr (refl, λ k. refl)
first-old i j (r ∷ rs) = by r.sign r.line (first-old i (j + 1) rs) where
  by : (sign : RowSign) (line : List ℕ)
      → ((first_of (old_numbers (numbered_from i (j + 1) rs)) ≡ i)
      × (0 < length (old_numbers (numbered_from i (j + 1) rs))))
      ⊎ ((old_numbers (numbered_from i (j + 1) rs) ≡ []) × ((k : ℕ)
      → numbered_from i (j + 1) rs ≡ numbered_from k (j + 1) rs))
      → ((first_of (old_numbers (numbered_from i j (row_of sign line ∷ rs))) ≡ i)
      × (0 < length (old_numbers (numbered_from i j (row_of sign line ∷ rs)))))
      ⊎ ((old_numbers (numbered_from i j (row_of sign line ∷ rs)) ≡ []) × ((k : ℕ)
      → numbered_from i j (row_of sign line ∷ rs)
      ≡ numbered_from k j (row_of sign line ∷ rs)))
  by Kept line rest = inl (refl, omega arith)
  by Removed line rest = inl (refl, omega arith)
  by Added line (inl is) = inl is
  by Added line (inr none) =
      inr (none.0, λ k. ap (λ xs. numbered_row i j Added line ∷ xs) (none.1 k))

pub first-new : (i j : ℕ) (rows : List Row)
    → ((first_of (new_numbers (numbered_from i j rows)) ≡ j)
    × (0 < length (new_numbers (numbered_from i j rows))))
    ⊎ ((new_numbers (numbered_from i j rows) ≡ []) × ((k : ℕ)
    → numbered_from i j rows ≡ numbered_from i k rows))
first-new i j [] = inr (refl, λ k. refl)
first-new i j (r ∷ rs) = by r.sign r.line (first-new (i + 1) j rs) where
  by : (sign : RowSign) (line : List ℕ)
      → ((first_of (new_numbers (numbered_from (i + 1) j rs)) ≡ j)
      × (0 < length (new_numbers (numbered_from (i + 1) j rs))))
      ⊎ ((new_numbers (numbered_from (i + 1) j rs) ≡ []) × ((k : ℕ)
      → numbered_from (i + 1) j rs ≡ numbered_from (i + 1) k rs))
      → ((first_of (new_numbers (numbered_from i j (row_of sign line ∷ rs))) ≡ j)
      × (0 < length (new_numbers (numbered_from i j (row_of sign line ∷ rs)))))
      ⊎ ((new_numbers (numbered_from i j (row_of sign line ∷ rs)) ≡ []) × ((k : ℕ)
      → numbered_from i j (row_of sign line ∷ rs)
      ≡ numbered_from i k (row_of sign line ∷ rs)))
  by Kept line rest = inl (refl, omega arith)
  by Added line rest = inl (refl, omega arith)
  by Removed line (inl is) = inl is
  by Removed line (inr none) =
      inr (none.0, λ k. ap (λ xs. numbered_row i j Removed line ∷ xs) (none.1 k))
