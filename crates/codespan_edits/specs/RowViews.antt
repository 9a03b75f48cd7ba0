-- Rows, contexts and hunks of Rust as definitions have them.
use Rattle.std.specs.Prelude.{List, map, string_bytes, Vec}
use Rattle.std.specs.Global.{Global}
use Rattle.codespan_edits.specs.Diffs.{Row}
use Rattle.codespan_edits.specs.DrawnRows.{Context}
use Rattle.codespan_edits.specs.Numbers.{NumberedRow}
use Rattle.codespan_edits.specs.declared.rows.DiffRow.{DiffRow}
use Rattle.codespan_edits.specs.declared.hunks.DiffContext.{DiffContext}
use Rattle.codespan_edits.specs.declared.hunks.Hunk.{Hunk}

-- a row with its line as bytes
abbrev pub row_view : DiffRow → Row
row_view row = record { sign = row.sign; line = string_bytes row.line }

-- the rows with their lines as bytes
abbrev pub rows_view : Vec DiffRow Global → List Row
rows_view rows = map row_view rows.items

-- a row with its numbers, and its line as bytes
abbrev pub numbered_row : DiffRow → NumberedRow
numbered_row row = record {
  row = row_view row;
  old_number = row.old_number;
  new_number = row.new_number;
}

-- the rows with their numbers
abbrev pub numbered_view : Vec DiffRow Global → List NumberedRow
numbered_view rows = map numbered_row rows.items

-- a context
abbrev pub context_view : DiffContext → Context
context_view context = record { before = context.before; after = context.after }

-- the rows of hunks with their numbers
abbrev pub hunks_view : Vec Hunk Global → List (List NumberedRow)
hunks_view hunks = map (λ (hunk : Hunk). numbered_view hunk.rows) hunks.items
