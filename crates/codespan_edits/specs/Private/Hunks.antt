-- The hunks so far, and those of the rows that are to come.
use Rattle.std.specs.Prelude.{◌≡◌, ◌<◌, ◌+◌, ◌++◌, ◌∷◌, [], ℕ, Bool, true, false, List, length}
use Rattle.codespan_edits.specs.Diffs.{Row}
use Rattle.codespan_edits.specs.DiffLaws.{is_changed}
use Rattle.codespan_edits.specs.DrawnRows.{Context, is_drawn, runs_from, hunks_of}
use Rattle.codespan_edits.specs.Numbers.{NumberedRow, numbered_from, numbered}
use Rattle.codespan_edits.specs.RowViews.{numbered_view, hunks_view}
use Rattle.codespan_edits.specs.declared.hunks.Cutter.{Cutter}

-- the hunks so far, and those of the run and of more rows, of which the first has this index
abbrev pub hunks_with : Cutter → (ℕ → Bool) → ℕ → List Row → List (List NumberedRow)
hunks_with cutter picks k rows =
    hunks_view cutter.hunks
    ++ runs_from picks k (numbered_view cutter.run)
    (numbered_from (cutter.line + 1) (cutter.new_line + 1) rows)

-- a test returns this for so many indices, of which the first is given
abbrev pub ArePicked : (ℕ → Bool) → Bool → ℕ → ℕ → Type 0
ArePicked picks picked k n = (i : ℕ) → i < n → picks (k + i) ≡ picked

-- the last row is changed
pub record EndsChanged (rows : List Row) : Type 0 where
  pub before : List Row
  pub row : Row
  pub parts : rows ≡ before ++ row ∷ []
  pub changed : is_changed row.sign ≡ true

-- of all rows these are to come, and with them the hunks so far are all
pub record Open (context : Context) (full : List Row) (cutter : Cutter) (rest : List Row) :
    Type 0 where
  pub done : List Row
  pub parts : full ≡ done ++ rest
  pub hunks : hunks_with cutter (is_drawn context (numbered full)) (length done) rest
      ≡ hunks_of context (numbered full)

-- and the last row before them is changed, unless there is none
pub record Cut (context : Context) (full : List Row) (cutter : Cutter) (rest : List Row) :
    Type 0 where
  pub open_rows : Open context full cutter rest
  pub start : cutter.started ≡ false → open_rows.done ≡ []
  pub last : cutter.started ≡ true → EndsChanged open_rows.done
