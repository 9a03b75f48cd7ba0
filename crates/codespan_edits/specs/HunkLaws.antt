-- What the hunks of a diff are to the two texts.
use Rattle.std.specs.Prelude.{◌≡◌, ◌↔◌, ◌⊎◌, ◌<◌, ◌≤◌, ℕ, ◌+◌, ◌-◌}
use Rattle.std.specs.Prelude.{Bool, true, false, List, [], ◌∷◌, ◌++◌, get_or, length}
use Rattle.std.specs.Prelude.{map, slice_get, Some, None}
use Rattle.std.specs.List.{flat_map}
use Rattle.codespan_edits.specs.Edits.{TextEdit, edited}
use Rattle.codespan_edits.specs.Faults.{fault}
use Rattle.codespan_edits.specs.Diffs.{lines}
use Rattle.codespan_edits.specs.DiffLaws.{is_changed}
use Rattle.codespan_edits.specs.Numbers.{NumberedRow}
use Rattle.codespan_edits.specs.Patches.{patched}
use Rattle.codespan_edits.specs.DrawnRows.{Context, diff_hunks, hunks_of, is_drawn}
use Rattle.codespan_edits.specs.declared.rows.RowSign.{RowSign}
use Rattle.codespan_edits.specs.declared.rows.RowSign.TheVariants.{Kept, Removed, Added}

-- the rows of hunks
abbrev pub rows_of_hunks : List (List NumberedRow) → List NumberedRow
rows_of_hunks hunks = flat_map (λ hunk. hunk) hunks

-- each changed row is drawn, whatever the context
abbrev pub ChangedRowsAreDrawn : Type 0
ChangedRowsAreDrawn = (context : Context) (rows : List NumberedRow) (k : ℕ) (row : NumberedRow)
    → k < length rows → get_or rows k row ≡ row → is_changed row.row.sign ≡ true
    → is_drawn context rows k ≡ true

-- whatever the context, the rows of the hunks of a diff are a patch that makes the lines of the
-- text after the edits of those of the source
abbrev pub HunksArePatch : Type 0
HunksArePatch = (context : Context) (text : List ℕ) (edits : List TextEdit)
    → fault text edits ≡ None
    → patched (lines text) (rows_of_hunks (diff_hunks context text edits))
    ≡ Some (lines (edited text edits))

-- the row at an index is changed
abbrev pub IsChangedAt : List NumberedRow → ℕ → Type 0
IsChangedAt rows c =
    (row : NumberedRow) × (slice_get rows c ≡ Some row) × (is_changed row.row.sign ≡ true)

-- a row is near a changed one: so many rows before it, or so many after it, or fewer
pub record IsNear (context : Context) (rows : List NumberedRow) (k : ℕ) : Type 0 where
  pub changed : ℕ
  pub inside : changed < length rows
  pub is_changed : IsChangedAt rows changed
  pub before : changed ≤ k + context.before
  pub after : k ≤ changed + context.after

-- drawn are the rows near changed ones, and single rows between two of these
abbrev pub RowsNearChangesAreDrawn : Type 0
RowsNearChangesAreDrawn = (context : Context) (rows : List NumberedRow) (k : ℕ)
    → (is_drawn context rows k ≡ true)
    ↔ (IsNear context rows k ⊎ (IsNear context rows (k - 1) × IsNear context rows (k + 1)))

module _ (picks : ℕ → Bool) where
  -- a test returns this for the index of each row, of which the first is given
  abbrev pub AreAll : Bool → ℕ → List NumberedRow → Type 0
  AreAll picked k [] = Unit {0}
  AreAll picked k (r ∷ rs) = (picks k ≡ picked) × AreAll picked (k + 1) rs

  -- the first hunk of rows: rows before it are left out, so many of them or more, and its own are
  -- picked
  pub record IsFirstHunk (least k : ℕ) (rows before hunk rest : List NumberedRow) : Type 0 where
    pub parts : rows ≡ before ++ (hunk ++ rest)
    pub left_out : AreAll false k before
    pub enough : least ≤ length before
    pub picked : AreAll true (k + length before) hunk
    pub some : 0 < length hunk

  -- the hunks of rows: before the first one so many rows or more are left out, before each other
  -- one two or more, and all rows after the last one
  abbrev pub AreHunks : ℕ → ℕ → List NumberedRow → List (List NumberedRow) → Type 0
  AreHunks least k rows [] = AreAll false k rows
  AreHunks least k rows (hunk ∷ hunks) =
      (before : List NumberedRow) × (rest : List NumberedRow)
      × IsFirstHunk least k rows before hunk rest
      × AreHunks 2 (k + length before + length hunk) rest hunks

-- hunks have the drawn rows, in their order, and are as long as can be; between two hunks two rows
-- or more are left out
abbrev pub HunksAreRuns : Type 0
HunksAreRuns = (context : Context) (rows : List NumberedRow)
    → AreHunks (is_drawn context rows) 0 0 rows (hunks_of context rows)

-- the other sign
abbrev pub other_sign : RowSign → RowSign
other_sign Kept = Kept
other_sign Removed = Added
other_sign Added = Removed

-- a row with its sign and its numbers exchanged
abbrev pub exchanged : NumberedRow → NumberedRow
exchanged r = record {
  row = record { sign = other_sign r.row.sign; line = r.row.line };
  old_number = r.new_number;
  new_number = r.old_number;
}

-- with their signs and numbers exchanged these rows make the lines of the source of those of the
-- text after the edits
abbrev pub HunksArePatchBack : Type 0
HunksArePatchBack = (context : Context) (text : List ℕ) (edits : List TextEdit)
    → fault text edits ≡ None
    → patched (lines (edited text edits))
    (map exchanged (rows_of_hunks (diff_hunks context text edits)))
    ≡ Some (lines text)
