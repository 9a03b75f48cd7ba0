use Rattle.codespan_core.proofs.Std.{◌≡◌, ◌++◌, ◌+◌, ◌≤◌, take, drop, map}
use Rattle.codespan_edits.specs.Numbers.{numbered, numbered_from}
use Rattle.codespan_edits.specs.RowViews.{row_view, numbered_row}
use Rattle.codespan_edits.proofs.numbers.number_rows.Given as goal

-- the rows so far have their numbers, and with those left they are the rows
abbrev pub invariant-loop-row : goal.invariant-loop-row
invariant-loop-row l = record {
  old : l.old ≤ l.row-index;
  new : l.new ≤ l.row-index;
  rows : map row_view l.row-items ≡ map row_view l.fn.rows.items;
  numbers : map numbered_row (take l.row-index l.row-items)
      ++ numbered_from (l.old + 1) (l.new + 1) (map row_view (drop l.row-index l.row-items))
      ≡ numbered (map row_view l.fn.rows.items);
}
