-- What the diff of edits is to the two texts.
use Rattle.std.specs.Prelude.{◌≡◌, ◌≢◌, ℕ, Bool, true, false, List, [], ◌∷◌}
use Rattle.std.specs.Prelude.{map, reverse, None, slice_range}
use Rattle.std.specs.List.{AllByRecursion, filter}
use Rattle.codespan_edits.specs.Edits.{TextEdit, edited}
use Rattle.codespan_edits.specs.Faults.{fault}
use Rattle.codespan_edits.specs.EditLaws.{HaveSameEdits}
use Rattle.codespan_edits.specs.Diffs.{Change, Row, lines, block_rows, diff_rows}
use Rattle.codespan_edits.specs.Numbers.{is_old, is_new}
use Rattle.codespan_edits.specs.declared.rows.RowSign.{RowSign}
use Rattle.codespan_edits.specs.declared.rows.RowSign.TheVariants.{Kept, Removed, Added}

-- the lines of the rows whose sign passes a test
abbrev pub lines_with : (RowSign → Bool) → List Row → List (List ℕ)
lines_with test rows = map (λ row. row.line) (filter (λ row. test row.sign) rows)

-- the lines of a diff but for the added ones are those of the source, and but for the removed ones
-- those of the text after the edits
abbrev pub DiffHasAllLines : Type 0
DiffHasAllLines = (text : List ℕ) (edits : List TextEdit) → fault text edits ≡ None
    → (lines_with is_old (diff_rows text edits) ≡ lines text)
    × (lines_with is_new (diff_rows text edits) ≡ lines (edited text edits))

-- whether a row's line is in the old text alone, or in the new one alone, or in one of the two
abbrev pub is_removed : RowSign → Bool
is_removed Kept = false
is_removed Removed = true
is_removed Added = false

abbrev pub is_added : RowSign → Bool
is_added Kept = false
is_added Removed = false
is_added Added = true

abbrev pub is_changed : RowSign → Bool
is_changed Kept = false
is_changed Removed = true
is_changed Added = true

-- the first lines of two lists differ, if both have one
abbrev pub DifferAtStart : List (List ℕ) → List (List ℕ) → Type 0
DifferAtStart [] ls = Unit {0}
DifferAtStart (k ∷ ks) [] = Unit {0}
DifferAtStart (k ∷ ks) (l ∷ ls) = k ≢ l

-- and so do the last ones
abbrev pub DifferAtEnd : List (List ℕ) → List (List ℕ) → Type 0
DifferAtEnd ks ls = DifferAtStart (reverse ks) (reverse ls)

-- the removed lines of a block and the added ones begin and end differently, and it has neither if
-- its texts are the same
pub record IsTrimmed (block : Change) : Type 0 where
  pub start : DifferAtStart (lines_with is_removed (block_rows block))
      (lines_with is_added (block_rows block))
  pub end : DifferAtEnd (lines_with is_removed (block_rows block))
      (lines_with is_added (block_rows block))
  pub same : block.old ≡ block.new → lines_with is_changed (block_rows block) ≡ []

-- each block of a diff is trimmed
abbrev pub BlocksAreTrimmed : Type 0
BlocksAreTrimmed = (block : Change) → IsTrimmed block

-- edits that put there what was there change no line
abbrev pub UnchangedTextIsKept : Type 0
UnchangedTextIsKept = (text : List ℕ) (edits : List TextEdit)
    → AllByRecursion (λ e. slice_range text e.start e.end ≡ e.replacement) edits
    → lines_with is_changed (diff_rows text edits) ≡ []

-- where one of two lists with the same edits, and with the insertions at a byte in the same order,
-- has no fault, the other has none, and they have the same diff
abbrev pub SameEditsHaveSameDiff : Type 0
SameEditsHaveSameDiff = (text : List ℕ) (es fs : List TextEdit) → HaveSameEdits es fs
    → fault text es ≡ None
    → (fault text fs ≡ None) × (diff_rows text fs ≡ diff_rows text es)
