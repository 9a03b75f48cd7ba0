use Rattle.codespan_core.proofs.Std.{◌≡◌, ◌≤◌, ◌-◌, ◌+◌, count_by}
use Rattle.codespan_core.proofs.Std.{range_with_len}
use Rattle.codespan_core.specs.{is_char_boundary}
use Rattle.codespan_core.proofs.files.lines.column_index.Given as goal

abbrev pub invariant-loop-at : goal.invariant-loop-at
invariant-loop-at l = record {
  low : l.fn.line_range.start ≤ l.at;
  counted : l.count ≡ count_by (is_char_boundary l.source)
      (range_with_len (l.fn.line_range.start + 1) (l.at - l.fn.line_range.start));
  few : l.count ≤ l.at - l.fn.line_range.start;
  high : l.fn.line_range.start ≤ l.end → l.at ≤ l.end;
  empty : l.end ≤ l.fn.line_range.start → l.at ≡ l.fn.line_range.start;
}

abbrev pub decreases-loop-at : goal.decreases-loop-at
decreases-loop-at l = l.last_block - l.at

abbrev pub invariant-loop-i : goal.invariant-loop-i
invariant-loop-i l = record {
  low : l.fn.line_range.start ≤ l.i;
  counted : l.count ≡ count_by (is_char_boundary l.source)
      (range_with_len (l.fn.line_range.start + 1) (l.i - l.fn.line_range.start));
  few : l.count ≤ l.i - l.fn.line_range.start;
  high : l.fn.line_range.start ≤ l.end → l.i ≤ l.end;
  empty : l.end ≤ l.fn.line_range.start → l.i ≡ l.fn.line_range.start;
}
