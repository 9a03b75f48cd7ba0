-- The numbers of a hunk's lines in one of the texts, as the code has them, and its rows.
use Rattle.std.specs.Prelude.{ℕ, List, [], ◌∷◌, map, length, slice_index_or, Option, Some}
use Rattle.std.specs.Prelude.{None}
use Rattle.codespan_edits.specs.Numbers.{NumberedRow}
use Rattle.codespan_edits.specs.RowViews.{numbered_row}
use Rattle.codespan_edits.specs.declared.hunks.Hunk.{Hunk}
use Rattle.codespan_edits.specs.declared.rows.DiffRow.{DiffRow}
use Rattle.codespan_suggestions.specs.declared.hunk_spans.Span.{Span}

-- the first of some numbers, 0 where there is none, and how many there are
abbrev pub span_of : List ℕ → Span
span_of numbers = record { first = slice_index_or numbers 0 0; count = length numbers }

-- a number, if there is one
abbrev pub as_list : Option ℕ → List ℕ
as_list (Some n) = n ∷ []
as_list None = []

-- rows with their numbers
abbrev pub numbered_rows : List DiffRow → List NumberedRow
numbered_rows = map numbered_row

-- the rows of hunks
abbrev pub rows_of_hunks : List Hunk → List (List NumberedRow)
rows_of_hunks = map (λ (hunk : Hunk). numbered_rows hunk.rows.items)
