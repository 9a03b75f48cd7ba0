-- The rows of a diff can be drawn: their numbers are of 64 bits, and their lines are of a text. For
-- the clause of `laws::sources_and_output_give_texts`.
use Rattle.codespan_core.proofs.Std.{◌≡◌, ℕ, ◌+◌, ◌<◌, ◌≤◌, ◌^◌, ◌==◌, Bool, true}
use Rattle.codespan_core.proofs.Std.{false, if◌then◌else◌, List, [], ◌∷◌, ◌++◌, length}
use Rattle.codespan_core.proofs.Std.{sym, subst, arith, AllByRecursion}
use Rattle.codespan_core.proofs.Std.{None, IfSome, IsUtf8, cond_both}
use Rattle.codespan_edits.specs.Edits.{TextEdit, edited}
use Rattle.codespan_edits.specs.Faults.{fault}
use Rattle.codespan_edits.specs.Diffs.{Row, lines, byte_before, diff_rows}
use Rattle.codespan_edits.specs.DiffLaws.{lines_with}
use Rattle.codespan_edits.specs.DrawnRows.{Context, runs_from, last_run, diff_hunks, is_drawn}
use Rattle.codespan_edits.specs.Numbers.{NumberedRow, numbered_from, numbered, is_old, is_new}
use Rattle.codespan_edits.specs.declared.rows.RowSign.{RowSign}
use Rattle.codespan_edits.specs.declared.rows.RowSign.TheVariants.{Kept, Removed, Added}
use Rattle.codespan_edits.proofs.DiffLines.{diff-has-all-lines}
use Rattle.codespan_suggestions.specs.ReadingLaws.{IsText}
use Rattle.codespan_suggestions.proofs.ReadTexts.{IsLine, lines-are, lines-utf8}

-- a row can be drawn
pub record IsDrawable (r : NumberedRow) : Type 0 where
  pub old : IfSome r.old_number (λ n. n < 2 ^ 64)
  pub new : IfSome r.new_number (λ n. n < 2 ^ 64)
  pub utf8 : IsUtf8 r.row.line
  pub is_line : IsLine r.row.line

-- a text has at most as many lines as bytes
pub few-lines : (text : List ℕ) → length (lines text) ≤ length text
few-lines [] = omega arith
few-lines (b ∷ bs) = by (b == 10) (lines bs) (few-lines bs) where
  by : (t : Bool) (ls : List (List ℕ)) → length ls ≤ length bs
      → length (if t then (b ∷ []) ∷ ls else byte_before b ls) ≤ length (b ∷ bs)
  by true ls few = omega (arith, few)
  by false [] few = omega (arith, few)
  by false (l ∷ ls) few = omega (arith, few)

-- lines of rows are not too many from these numbers on, and each is a line of a text
record IsLimited (n : ℕ) (ls : List (List ℕ)) : Type 0 where
  few : n + length ls < 2 ^ 64
  utf8 : AllByRecursion IsUtf8 ls
  are : AllByRecursion IsLine ls

later : (n : ℕ) (l : List ℕ) (ls : List (List ℕ)) → IsLimited n (l ∷ ls)
    → IsLimited (n + 1) ls
later n l ls limited = record {
  few = omega (arith, limited.few);
  utf8 = limited.utf8.1;
  are = limited.are.1;
}

drawable-from : (i j : ℕ) (rows : List Row) → IsLimited i (lines_with is_old rows)
    → IsLimited j (lines_with is_new rows)
    → AllByRecursion IsDrawable (numbered_from i j rows)
drawable-from i j [] old new = tt
drawable-from i j (r ∷ rs) old new =
    by r.sign r.line old new (drawable-from (i + 1) (j + 1) rs) (drawable-from (i + 1) j rs)
    (drawable-from i (j + 1) rs)
  where
    by : (sign : RowSign) (line : List ℕ)
        → IsLimited i (lines_with is_old (record { sign = sign; line = line } ∷ rs))
        → IsLimited j (lines_with is_new (record { sign = sign; line = line } ∷ rs))
        → (IsLimited (i + 1) (lines_with is_old rs) → IsLimited (j + 1) (lines_with is_new rs)
        → AllByRecursion IsDrawable (numbered_from (i + 1) (j + 1) rs))
        → (IsLimited (i + 1) (lines_with is_old rs) → IsLimited j (lines_with is_new rs)
        → AllByRecursion IsDrawable (numbered_from (i + 1) j rs))
        → (IsLimited i (lines_with is_old rs) → IsLimited (j + 1) (lines_with is_new rs)
        → AllByRecursion IsDrawable (numbered_from i (j + 1) rs))
        → AllByRecursion IsDrawable
        (numbered_from i j (record { sign = sign; line = line } ∷ rs))
    by Kept line old new both left right = (
      record {
        old = omega (arith, old.few);
        new = omega (arith, new.few);
        utf8 = old.utf8.0;
        is_line = old.are.0;
      },
      both (later i line (lines_with is_old rs) old) (later j line (lines_with is_new rs) new),
    )
    by Removed line old new both left right = (
      record {
        old = omega (arith, old.few);
        new = tt;
        utf8 = old.utf8.0;
        is_line = old.are.0;
      },
      left (later i line (lines_with is_old rs) old) new,
    )
    by Added line old new both left right = (
      record {
        old = tt;
        new = omega (arith, new.few);
        utf8 = new.utf8.0;
        is_line = new.are.0;
      },
      right old (later j line (lines_with is_new rs) new),
    )

runs-all : (P : NumberedRow → Type 0) (picks : ℕ → Bool) (k : ℕ) (held rs : List NumberedRow)
    → AllByRecursion P held → AllByRecursion P rs
    → AllByRecursion (AllByRecursion P) (runs_from picks k held rs)
runs-all P picks k [] [] all more = tt
runs-all P picks k (h ∷ hs) [] all more = (all, tt)
runs-all P picks k held (r ∷ rs) all more =
    cond_both (picks k) (runs_from picks (k + 1) (held ++ r ∷ []) rs)
    (last_run held ++ runs_from picks (k + 1) [] rs) (AllByRecursion (AllByRecursion P))
    (λ _. runs-all P picks (k + 1) (held ++ r ∷ []) rs (held-all held r all more.0) more.1)
    (λ _. last-all held (runs_from picks (k + 1) [] rs) all
    (runs-all P picks (k + 1) [] rs tt more.1))
  where
    held-all : (hs : List NumberedRow) (r : NumberedRow) → AllByRecursion P hs → P r
        → AllByRecursion P (hs ++ r ∷ [])
    held-all [] r all one = (one, tt)
    held-all (h ∷ hs) r all one = (all.0, held-all hs r all.1 one)

    last-all : (hs : List NumberedRow) (runs : List (List NumberedRow)) → AllByRecursion P hs
        → AllByRecursion (AllByRecursion P) runs
        → AllByRecursion (AllByRecursion P) (last_run hs ++ runs)
    last-all [] runs all more = more
    last-all (h ∷ hs) runs all more = (all, more)

limited : (text : List ℕ) → IsText text → IsLimited 1 (lines text)
limited text is = record {
  few = omega (arith, few-lines text, is.len);
  utf8 = lines-utf8 text is.utf8;
  are = lines-are text;
}

pub rows-drawable : (text : List ℕ) (edits : List TextEdit) → fault text edits ≡ None
    → IsText text → IsText (edited text edits)
    → AllByRecursion IsDrawable (numbered (diff_rows text edits))
rows-drawable text edits fine source result =
    let both = diff-has-all-lines text edits fine in
    drawable-from 1 1 (diff_rows text edits)
    (subst (IsLimited 1) (sym both.0) (limited text source))
    (subst (IsLimited 1) (sym both.1) (limited (edited text edits) result))

pub hunks-drawable : (context : Context) (text : List ℕ) (edits : List TextEdit)
    → fault text edits ≡ None → IsText text → IsText (edited text edits)
    → AllByRecursion (AllByRecursion IsDrawable) (diff_hunks context text edits)
hunks-drawable context text edits fine source result =
    let rows = numbered (diff_rows text edits) in
    runs-all IsDrawable (is_drawn context rows) 0 [] rows tt
    (rows-drawable text edits fine source result)
