-- For the clause of `laws::hunks_are_patch_back`.
use Rattle.codespan_core.proofs.Std.{◌≡◌, ◌∙◌, ◌+◌, ◌∷◌, [], ℕ, List, Bool, true}
use Rattle.codespan_core.proofs.Std.{false, map, refl, sym, ap, ◌||◌, if◌then◌else◌}
use Rattle.codespan_core.proofs.Std.{Some, None, Option}
use Rattle.codespan_edits.specs.Diffs.{Row, lines, diff_rows}
use Rattle.codespan_edits.specs.Edits.{edited}
use Rattle.codespan_edits.specs.DiffLaws.{lines_with, is_changed}
use Rattle.codespan_edits.specs.Numbers.{NumberedRow, numbered, numbered_from, is_old, is_new}
use Rattle.codespan_edits.specs.Patches.{shown_from, patch_rows, patched}
use Rattle.codespan_edits.specs.DrawnRows.{is_drawn}
use Rattle.codespan_edits.specs.HunkLaws.{other_sign, exchanged, HunksArePatchBack}
use Rattle.codespan_edits.specs.declared.rows.RowSign.{RowSign}
use Rattle.codespan_edits.specs.declared.rows.RowSign.TheVariants.{Kept, Removed, Added}
use Rattle.codespan_edits.proofs.DiffLines.{diff-has-all-lines}
use Rattle.codespan_edits.proofs.HunkPatches.{hunks-shown}
use Rattle.codespan_edits.proofs.PatchLemmas.{all-patch}

-- a row of a diff with its sign exchanged
abbrev other_row : Row → Row
other_row r = record { sign = other_sign r.sign; line = r.line }

changed-other : (s : RowSign) → is_changed (other_sign s) ≡ is_changed s
changed-other Kept = refl
changed-other Removed = refl
changed-other Added = refl

-- what is shown is shown with signs exchanged
shown-other : (picks : ℕ → Bool) (k : ℕ) (rows : List NumberedRow)
    → map exchanged (shown_from picks k rows) ≡ shown_from picks k (map exchanged rows)
shown-other picks k [] = refl
shown-other picks k (r ∷ rs) =
    by (is_changed r.row.sign || picks k) (shown-other picks (k + 1) rs)
    ∙ ap (λ b. if b || picks k then exchanged r ∷ shown_from picks (k + 1) (map exchanged rs)
    else shown_from picks (k + 1) (map exchanged rs)) (sym (changed-other r.row.sign))
  where
    by : (b : Bool)
        → map exchanged (shown_from picks (k + 1) rs)
        ≡ shown_from picks (k + 1) (map exchanged rs)
        → map exchanged (if b then r ∷ shown_from picks (k + 1) rs
        else shown_from picks (k + 1) rs)
        ≡ (if b then exchanged r ∷ shown_from picks (k + 1) (map exchanged rs)
        else shown_from picks (k + 1) (map exchanged rs))
    by true rest = ap (λ xs. exchanged r ∷ xs) rest
    by false rest = rest

-- a row by its fields
abbrev row_of : RowSign → List ℕ → Option ℕ → Option ℕ → NumberedRow
row_of sign line o n = record {
  row = record { sign = sign; line = line };
  old_number = o;
  new_number = n;
}

-- numbers change places
numbered-other : (i j : ℕ) (rows : List Row)
    → map exchanged (numbered_from i j rows) ≡ numbered_from j i (map other_row rows)
numbered-other i j [] = refl
numbered-other i j (r ∷ rs) =
    by r.sign r.line (numbered-other (i + 1) (j + 1) rs) (numbered-other (i + 1) j rs)
    (numbered-other i (j + 1) rs)
  where
    by : (sign : RowSign) (line : List ℕ)
        → map exchanged (numbered_from (i + 1) (j + 1) rs)
        ≡ numbered_from (j + 1) (i + 1) (map other_row rs)
        → map exchanged (numbered_from (i + 1) j rs)
        ≡ numbered_from j (i + 1) (map other_row rs)
        → map exchanged (numbered_from i (j + 1) rs)
        ≡ numbered_from (j + 1) i (map other_row rs)
        → map exchanged (numbered_from i j (record { sign = sign; line = line } ∷ rs))
        ≡ numbered_from j i (map other_row (record { sign = sign; line = line } ∷ rs))
    by Kept line both left right = ap (λ xs. row_of Kept line (Some j) (Some i) ∷ xs) both
    by Removed line both left right = ap (λ xs. row_of Added line None (Some i) ∷ xs) left
    by Added line both left right = ap (λ xs. row_of Removed line (Some j) None ∷ xs) right

-- so do the old lines and the new ones
lines-other : (rows : List Row)
    → (lines_with is_old (map other_row rows) ≡ lines_with is_new rows)
    × (lines_with is_new (map other_row rows) ≡ lines_with is_old rows)
lines-other [] = (refl, refl)
lines-other (r ∷ rs) = by r.sign r.line (lines-other rs) where
  by : (sign : RowSign) (line : List ℕ)
      → (lines_with is_old (map other_row rs) ≡ lines_with is_new rs)
      × (lines_with is_new (map other_row rs) ≡ lines_with is_old rs)
      → (lines_with is_old (map other_row (record { sign = sign; line = line } ∷ rs))
      ≡ lines_with is_new (record { sign = sign; line = line } ∷ rs))
      × (lines_with is_new (map other_row (record { sign = sign; line = line } ∷ rs))
      ≡ lines_with is_old (record { sign = sign; line = line } ∷ rs))
  by Kept line rest = (ap (λ ls. line ∷ ls) rest.0, ap (λ ls. line ∷ ls) rest.1)
  by Removed line rest = (rest.0, ap (λ ls. line ∷ ls) rest.1)
  by Added line rest = (ap (λ ls. line ∷ ls) rest.0, rest.1)

pub hunks-are-patch-back : HunksArePatchBack
hunks-are-patch-back context text edits fine =
    let rows = diff_rows text edits in
    let all = diff-has-all-lines text edits fine in
    let others = lines-other rows in
    let picks = is_drawn context (numbered rows) in
    let made = lines (edited text edits) in
    ap (λ ns. patched made (map exchanged ns)) (hunks-shown context (numbered rows))
    ∙ (ap (patched made) (shown-other picks 0 (numbered rows)
    ∙ ap (shown_from picks 0) (numbered-other 1 1 rows))
    ∙ (ap (λ ls. patch_rows (shown_from picks 0 (numbered (map other_row rows)))
    (record { written = []; passed = 0; left = ls })) (sym all.1 ∙ sym others.0)
    ∙ (all-patch picks 0 (map other_row rows) [] [] 0
    ∙ ap Some (others.1 ∙ all.0))))
