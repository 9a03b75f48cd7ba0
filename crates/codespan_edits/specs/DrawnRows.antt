-- The rows of a diff that are drawn, and their hunks.
use Rattle.std.specs.Prelude.{ℕ, ◌+◌, ◌-◌, nat_lt, Bool, ◌&&◌, ◌||◌}
use Rattle.std.specs.Prelude.{if◌then◌else◌, List, [], ◌∷◌, ◌++◌, take, filter}
use Rattle.std.specs.Prelude.{length}
use Rattle.codespan_edits.specs.Edits.{TextEdit}
use Rattle.codespan_edits.specs.Diffs.{diff_rows}
use Rattle.codespan_edits.specs.DiffLaws.{is_changed}
use Rattle.codespan_edits.specs.Numbers.{NumberedRow, numbered}

-- how many of the first n rows are changed
abbrev pub changed_among : ℕ → List NumberedRow → ℕ
changed_among n rows =
    length (filter (λ (r : NumberedRow). is_changed r.row.sign) (take n rows))

-- how many rows are drawn before a changed row, and how many after it
pub record Context : Type 0 where
  pub before : ℕ
  pub after : ℕ

-- whether the row at an index, from 0, is at most so many rows before a changed one, or at most so
-- many after it: more of the rows up to there are changed than of those that are too far before it
abbrev pub is_near_change : Context → List NumberedRow → ℕ → Bool
is_near_change context rows k =
    nat_lt (changed_among (k - context.after) rows)
    (changed_among (k + context.before + 1) rows)

-- whether the row at an index is drawn: it is near a changed row, or it alone is between two that
-- are
abbrev pub is_drawn : Context → List NumberedRow → ℕ → Bool
is_drawn context rows k =
    is_near_change context rows k
    || (is_near_change context rows (k - 1) && is_near_change context rows (k + 1))

-- the run that is held, unless it has no row
abbrev pub last_run : List NumberedRow → List (List NumberedRow)
last_run [] = []
last_run (r ∷ rs) = (r ∷ rs) ∷ []

-- the longest runs of rows at indices, of which the first is given, that a test picks; the rows of
-- a run that come before are held
abbrev pub runs_from : (ℕ → Bool) → ℕ → List NumberedRow → List NumberedRow
    → List (List NumberedRow)
runs_from picks k held [] = last_run held
runs_from picks k held (r ∷ rs) =
    if picks k then runs_from picks (k + 1) (held ++ r ∷ []) rs
    else last_run held ++ runs_from picks (k + 1) [] rs

-- the hunks of rows: the longest runs of drawn ones
abbrev pub hunks_of : Context → List NumberedRow → List (List NumberedRow)
hunks_of context rows = runs_from (is_drawn context rows) 0 [] rows

-- the hunks of the diff that edits make of a text
abbrev pub diff_hunks : Context → List ℕ → List TextEdit → List (List NumberedRow)
diff_hunks context text edits = hunks_of context (numbered (diff_rows text edits))
