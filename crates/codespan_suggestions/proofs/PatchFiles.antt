-- Files of a unified diff as they are read, for the clause of `laws::unified_diffs_are_patches`.
use Rattle.codespan_core.proofs.Std.{◌≡◌, ◌∙◌, ℕ, ◌+◌, ◌-◌, ◌<◌, ◌^◌, ◌==◌, Bool}
use Rattle.codespan_core.proofs.Std.{true, false, if◌then◌else◌, List, [], ◌∷◌, ◌++◌, length, map}
use Rattle.codespan_core.proofs.Std.{flat_map, filter, refl, sym, ap, ap₂, subst, arith, nat_lt}
use Rattle.codespan_core.proofs.Std.{append_assoc, append-nil, AllByRecursion, nat_tests, ⊎_elim}
use Rattle.codespan_core.proofs.Std.{◌⊎◌, inl, inr, take, lt-ltb}
use Rattle.std.specs.Prelude.{slice_index_or}
use Rattle.codespan_edits.specs.Diffs.{Row, is_whole}
use Rattle.codespan_edits.specs.Numbers.{NumberedRow, numbered_from, is_old, is_new}
use Rattle.codespan_edits.specs.Numbers.{next_number}
use Rattle.codespan_edits.specs.HunkLaws.{rows_of_hunks}
use Rattle.codespan_suggestions.specs.UnifiedDiffs.{old_numbers, new_numbers, patch_text}
use Rattle.codespan_suggestions.specs.ReadPatches.{PatchLine, first_number, patch_lines}
use Rattle.codespan_suggestions.specs.ReadPatches.{hunk_rows_read, patched_files}
use Rattle.codespan_suggestions.specs.ReadPatches.PatchLine.{FileStart, HunkStart, RowShown}
use Rattle.codespan_suggestions.specs.ReadPatches.PatchLine.{NewlineMark, OtherLine}
use Rattle.codespan_suggestions.proofs.ReadTexts.{IsLine}
use Rattle.codespan_suggestions.proofs.PatchTexts.{row_lines, AreFew, head-read}
use Rattle.codespan_suggestions.proofs.PatchTexts.{first_of, hunk_lines}
use Rattle.codespan_suggestions.proofs.PatchTexts.{file_lines}
use Rattle.codespan_suggestions.proofs.PatchReads.{count_in, row_reads, rows-step, rows-back}
use Rattle.codespan_suggestions.proofs.PatchReads.{Restarts, old-numbers, new-numbers, first-old}
use Rattle.codespan_suggestions.proofs.PatchReads.{first-new}

-- rows with numbers that follow on each other, which are of 64 bits, and lines of a text
pub record IsHunk (hunk : List NumberedRow) : Type 0 where
  pub first : ℕ
  pub second : ℕ
  pub rows : List Row
  pub is : hunk ≡ numbered_from first second rows
  pub old : first + count_in is_old rows < 2 ^ 64
  pub new : second + count_in is_new rows < 2 ^ 64
  pub lines : AllByRecursion (λ (r : Row). IsLine r.line) rows

-- what a hunk is read as
abbrev pub hunk_reads : List NumberedRow → List PatchLine
hunk_reads hunk =
    HunkStart (first_number (first_of (old_numbers hunk)) (length (old_numbers hunk)))
    (first_number (first_of (new_numbers hunk)) (length (new_numbers hunk)))
    ∷ flat_map (λ (r : NumberedRow). row_reads r.row) hunk

module _ {A : Type 0} (f : Row → List A) where
  -- what depends on rows alone
  of-rows : (rows : List Row) (i j : ℕ)
      → flat_map (λ (r : NumberedRow). f r.row) (numbered_from i j rows) ≡ flat_map f rows
  of-rows [] i j = refl
  of-rows (r ∷ rs) i j =
      ap (λ xs. f r ++ xs)
      (of-rows rs (next_number (is_old r.sign) i) (next_number (is_new r.sign) j))

-- the numbers that begin a hunk are read
keep-old : (i j : ℕ) (rows : List Row)
    → numbered_from i j rows
    ≡ numbered_from (first_number (first_of (old_numbers (numbered_from i j rows)))
    (length (old_numbers (numbered_from i j rows)))) j rows
keep-old i j rows =
    let numbers = old_numbers (numbered_from i j rows) in
    ⊎_elim
    (λ (h : (first_of numbers ≡ i) × (0 < length numbers)).
    let some : (length numbers == 0) ≡ false = (let n = h.1 in grind (arith, nat_tests, n)) in
    ap (λ k. numbered_from k j rows)
    (sym (ap (λ b. if b then first_of numbers + 1 else first_of numbers) some ∙ h.0)))
    (λ (h : (numbers ≡ []) × ((k : ℕ) → numbered_from i j rows ≡ numbered_from k j rows)).
    h.1 (first_number (first_of numbers) (length numbers)))
    (first-old i j rows)

keep-new : (i j : ℕ) (rows : List Row)
    → numbered_from i j rows
    ≡ numbered_from i (first_number (first_of (new_numbers (numbered_from i j rows)))
    (length (new_numbers (numbered_from i j rows)))) rows
keep-new i j rows =
    let numbers = new_numbers (numbered_from i j rows) in
    ⊎_elim
    (λ (h : (first_of numbers ≡ j) × (0 < length numbers)).
    let some : (length numbers == 0) ≡ false = (let n = h.1 in grind (arith, nat_tests, n)) in
    ap (λ k. numbered_from i k rows)
    (sym (ap (λ b. if b then first_of numbers + 1 else first_of numbers) some ∙ h.0)))
    (λ (h : (numbers ≡ []) × ((k : ℕ) → numbered_from i j rows ≡ numbered_from i k rows)).
    h.1 (first_number (first_of numbers) (length numbers)))
    (first-new i j rows)

same-start : (i j : ℕ) (rows : List Row) (hunk : List NumberedRow)
    → hunk ≡ numbered_from i j rows
    → numbered_from (first_number (first_of (old_numbers hunk)) (length (old_numbers hunk)))
    (first_number (first_of (new_numbers hunk)) (length (new_numbers hunk))) rows
    ≡ numbered_from i j rows
same-start i j rows hunk is =
    let k = first_number (first_of (old_numbers hunk)) (length (old_numbers hunk)) in
    let old : numbered_from i j rows ≡ numbered_from k j rows =
    keep-old i j rows
    ∙ ap (λ (h : List NumberedRow). numbered_from (first_number (first_of (old_numbers h))
    (length (old_numbers h))) j rows) (sym is) in
    let new : numbered_from k j rows
    ≡ numbered_from k (first_number (first_of (new_numbers hunk)) (length (new_numbers hunk)))
    rows =
    keep-new k j rows
    ∙ ap (λ (h : List NumberedRow). numbered_from k (first_number (first_of (new_numbers h))
    (length (new_numbers h))) rows) (sym old ∙ sym is) in
    sym (old ∙ new)

first-few : (numbers : List ℕ) (i n : ℕ) → (first_of numbers ≡ i) ⊎ (numbers ≡ [])
    → i + n < 2 ^ 64 → first_of numbers < 2 ^ 64
first-few numbers i n is few =
    ⊎_elim (λ (h : first_of numbers ≡ i). omega (arith, h, few))
    (λ (h : numbers ≡ []). subst (λ xs. first_of xs < 2 ^ 64) (sym h) (omega arith)) is

module _ (hunk : List NumberedRow) (is : IsHunk hunk) where
  old-count : length (old_numbers hunk) ≡ count_in is_old is.rows
  old-count =
      ap (λ h. length (old_numbers h)) is.is ∙ old-numbers is.first is.second is.rows

  new-count : length (new_numbers hunk) ≡ count_in is_new is.rows
  new-count =
      ap (λ h. length (new_numbers h)) is.is ∙ new-numbers is.first is.second is.rows

  pub are-few : AreFew (first_of (old_numbers hunk)) (length (old_numbers hunk))
      (first_of (new_numbers hunk)) (length (new_numbers hunk))
  are-few = record {
    first =
        subst (λ h. first_of (old_numbers h) < 2 ^ 64) (sym is.is)
        (first-few (old_numbers (numbered_from is.first is.second is.rows)) is.first
        (count_in is_old is.rows)
        (⊎_elim (λ h. inl h.0) (λ h. inr h.0) (first-old is.first is.second is.rows)) is.old);
    second = omega (arith, old-count, is.old);
    third =
        subst (λ h. first_of (new_numbers h) < 2 ^ 64) (sym is.is)
        (first-few (new_numbers (numbered_from is.first is.second is.rows)) is.second
        (count_in is_new is.rows)
        (⊎_elim (λ h. inl h.0) (λ h. inr h.0) (first-new is.first is.second is.rows)) is.new);
    fourth = omega (arith, new-count, is.new);
  }

  hunk-step : (rest : List (List ℕ))
      → patch_lines 0 0 (hunk_lines hunk ++ rest) ≡ hunk_reads hunk ++ patch_lines 0 0 rest
  hunk-step rest =
      let numbers = head-read (first_of (old_numbers hunk)) (length (old_numbers hunk))
      (first_of (new_numbers hunk)) (length (new_numbers hunk)) are-few in
      let tail = flat_map (λ (r : NumberedRow). row_lines r.row) hunk ++ rest in
      ap (λ (ns : List ℕ).
      HunkStart (first_number (slice_index_or ns 0 0) (slice_index_or ns 1 0))
      (first_number (slice_index_or ns 2 0) (slice_index_or ns 3 0))
      ∷ patch_lines (slice_index_or ns 1 0) (slice_index_or ns 3 0) tail) numbers
      ∙ ap (λ xs. HunkStart (first_number (first_of (old_numbers hunk)) (length (old_numbers hunk)))
      (first_number (first_of (new_numbers hunk)) (length (new_numbers hunk))) ∷ xs)
      (ap₂ (λ (m n : ℕ). patch_lines m n tail) old-count new-count
      ∙ (ap (λ ls. patch_lines (count_in is_old is.rows) (count_in is_new is.rows) (ls ++ rest))
      (ap (flat_map (λ (r : NumberedRow). row_lines r.row)) is.is
      ∙ of-rows row_lines is.rows is.first is.second)
      ∙ (rows-step is.rows rest
      ∙ ap (λ xs. xs ++ patch_lines 0 0 rest)
      (sym (ap (flat_map (λ (r : NumberedRow). row_reads r.row)) is.is
      ∙ of-rows row_reads is.rows is.first is.second)))))

  hunk-back : (i j : ℕ) (xs : List PatchLine) → Restarts xs
      → hunk_rows_read i j (hunk_reads hunk ++ xs) ≡ hunk ++ hunk_rows_read 1 1 xs
  hunk-back i j xs ends =
      let k = first_number (first_of (old_numbers hunk)) (length (old_numbers hunk)) in
      let l = first_number (first_of (new_numbers hunk)) (length (new_numbers hunk)) in
      ap (λ ys. hunk_rows_read k l (ys ++ xs))
      (ap (flat_map (λ (r : NumberedRow). row_reads r.row)) is.is
      ∙ of-rows row_reads is.rows is.first is.second)
      ∙ (rows-back is.rows k l xs is.lines ends
      ∙ ap (λ ys. ys ++ hunk_rows_read 1 1 xs)
      (same-start is.first is.second is.rows hunk is.is ∙ sym is.is))

-- ---- hunks of a file

hunks-step : (hunks : List (List NumberedRow)) (rest : List (List ℕ))
    → AllByRecursion IsHunk hunks
    → patch_lines 0 0 (flat_map hunk_lines hunks ++ rest)
    ≡ flat_map hunk_reads hunks ++ patch_lines 0 0 rest
hunks-step [] rest all = refl
hunks-step (h ∷ hs) rest all =
    ap (patch_lines 0 0) (append_assoc (hunk_lines h) (flat_map hunk_lines hs) rest)
    ∙ (hunk-step h all.0 (flat_map hunk_lines hs ++ rest)
    ∙ (ap (λ xs. hunk_reads h ++ xs) (hunks-step hs rest all.1)
    ∙ sym (append_assoc (hunk_reads h) (flat_map hunk_reads hs) (patch_lines 0 0 rest))))

hunks-restart : (hunks : List (List NumberedRow)) (xs : List PatchLine) → Restarts xs
    → Restarts (flat_map hunk_reads hunks ++ xs)
hunks-restart [] xs ends = ends
hunks-restart (h ∷ hs) xs ends = record { unmarked = λ text. refl; anew = λ i j. refl }

hunks-back : (hunks : List (List NumberedRow)) (i j : ℕ) (xs : List PatchLine)
    → AllByRecursion IsHunk hunks → Restarts xs
    → hunk_rows_read i j (flat_map hunk_reads hunks ++ xs)
    ≡ rows_of_hunks hunks ++ hunk_rows_read 1 1 xs
hunks-back [] i j xs all ends = ends.anew i j
hunks-back (h ∷ hs) i j xs all ends =
    ap (hunk_rows_read i j) (append_assoc (hunk_reads h) (flat_map hunk_reads hs) xs)
    ∙ (hunk-back h all.0 i j (flat_map hunk_reads hs ++ xs) (hunks-restart hs xs ends)
    ∙ (ap (λ ys. h ++ ys) (hunks-back hs 1 1 xs all.1 ends)
    ∙ sym (append_assoc h (rows_of_hunks hs) (hunk_rows_read 1 1 xs))))

-- no line of a hunk starts a file
skip-rows : (rows : List NumberedRow) (xs : List PatchLine)
    → patched_files (flat_map (λ (r : NumberedRow). row_reads r.row) rows ++ xs)
    ≡ patched_files xs
skip-rows [] xs = refl
skip-rows (r ∷ rs) xs = by (is_whole r.row.line) (skip-rows rs xs) where
  by : (t : Bool)
      → patched_files (flat_map (λ (r : NumberedRow). row_reads r.row) rs ++ xs)
      ≡ patched_files xs
      → patched_files
      (((if t then RowShown r.row.sign (take (length r.row.line - 1) r.row.line) ∷ []
      else RowShown r.row.sign r.row.line ∷ (NewlineMark ∷ []))
      ++ flat_map (λ (r : NumberedRow). row_reads r.row) rs) ++ xs)
      ≡ patched_files xs
  by true rest = rest
  by false rest = rest

skip-hunks : (hunks : List (List NumberedRow)) (xs : List PatchLine)
    → patched_files (flat_map hunk_reads hunks ++ xs) ≡ patched_files xs
skip-hunks [] xs = refl
skip-hunks (h ∷ hs) xs =
    ap patched_files (append_assoc (hunk_reads h) (flat_map hunk_reads hs) xs)
    ∙ (skip-rows h (flat_map hunk_reads hs ++ xs) ∙ skip-hunks hs xs)

-- ---- files

-- a file: its name, and its hunks
abbrev pub NamedHunks : Type 0
NamedHunks = List ℕ × List (List NumberedRow)

abbrev pub all_lines : List NamedHunks → List (List ℕ)
all_lines fs = flat_map (λ (f : NamedHunks). file_lines f.0 f.1) fs

abbrev pub all_texts : List NamedHunks → List ℕ
all_texts fs = flat_map (λ (f : NamedHunks). patch_text f.0 f.1) fs

abbrev pub has_hunks : List (List NumberedRow) → Bool
has_hunks hunks = nat_lt 0 (length hunks)

-- what the lines of files are read as
abbrev pub file_reads : List (List NumberedRow) → List PatchLine → List PatchLine
file_reads [] xs = xs
file_reads (h ∷ hs) xs =
    FileStart ∷ (OtherLine ∷ (flat_map hunk_reads (h ∷ hs) ++ xs))

abbrev pub all_reads : List NamedHunks → List PatchLine
all_reads [] = []
all_reads (f ∷ fs) = file_reads f.1 (all_reads fs)

-- what begins at the start of a file
record BeginsFile (xs : List PatchLine) : Type 0 where
  restarts : Restarts xs
  none : hunk_rows_read 1 1 xs ≡ []

begins-file : (fs : List NamedHunks) → BeginsFile (all_reads fs)
begins-file [] = record {
  restarts = record { unmarked = λ text. refl; anew = λ i j. refl };
  none = refl;
}
begins-file (f ∷ fs) = by f.1 (begins-file fs) where
  by : (hunks : List (List NumberedRow)) → BeginsFile (all_reads fs)
      → BeginsFile (file_reads hunks (all_reads fs))
  by [] rest = rest
  by (h ∷ hs) rest = record {
    restarts = record { unmarked = λ text. refl; anew = λ i j. refl };
    none = refl;
  }

-- each file has hunks of lines
abbrev pub AllHunks : List NamedHunks → Type 0
AllHunks = AllByRecursion (λ (f : NamedHunks). AllByRecursion IsHunk f.1)

pub files-step : (fs : List NamedHunks) → AllHunks fs
    → patch_lines 0 0 (all_lines fs) ≡ all_reads fs
files-step [] all = refl
files-step (f ∷ fs) all = by f.1 all.0 (files-step fs all.1) where
  by : (hunks : List (List NumberedRow)) → AllByRecursion IsHunk hunks
      → patch_lines 0 0 (all_lines fs) ≡ all_reads fs
      → patch_lines 0 0 (file_lines f.0 hunks ++ all_lines fs) ≡ file_reads hunks (all_reads fs)
  by [] each rest = rest
  by (h ∷ hs) each rest =
      ap (λ xs. FileStart ∷ (OtherLine ∷ xs))
      (hunks-step (h ∷ hs) (all_lines fs) each
      ∙ ap (λ xs. flat_map hunk_reads (h ∷ hs) ++ xs) rest)

pub files-back : (fs : List NamedHunks) → AllHunks fs
    → patched_files (all_reads fs)
    ≡ map rows_of_hunks (filter has_hunks (map (λ (f : NamedHunks). f.1) fs))
files-back [] all = refl
files-back (f ∷ fs) all = by f.1 all.0 (files-back fs all.1) where
  by : (hunks : List (List NumberedRow)) → AllByRecursion IsHunk hunks
      → patched_files (all_reads fs)
      ≡ map rows_of_hunks (filter has_hunks (map (λ (f : NamedHunks). f.1) fs))
      → patched_files (file_reads hunks (all_reads fs))
      ≡ map rows_of_hunks (filter has_hunks (hunks ∷ map (λ (f : NamedHunks). f.1) fs))
  by [] each rest = rest
  by (h ∷ hs) each rest =
      ap₂ (λ (x : List NumberedRow) (xs : List (List NumberedRow)). x ∷ xs)
      (hunks-back (h ∷ hs) 1 1 (all_reads fs) each (begins-file fs).restarts
      ∙ (ap (λ xs. rows_of_hunks (h ∷ hs) ++ xs) (begins-file fs).none
      ∙ append-nil (rows_of_hunks (h ∷ hs))))
      (skip-hunks (h ∷ hs) (all_reads fs) ∙ rest)
      ∙ ap (λ b. map rows_of_hunks (if b then (h ∷ hs) ∷ filter has_hunks
      (map (λ (f : NamedHunks). f.1) fs) else filter has_hunks
      (map (λ (f : NamedHunks). f.1) fs)))
      (sym (lt-ltb 0 (length (h ∷ hs)) (omega arith)))
