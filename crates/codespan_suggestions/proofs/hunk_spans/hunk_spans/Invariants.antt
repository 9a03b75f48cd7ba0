use Rattle.codespan_core.proofs.Std.{◌≡◌, ◌≤◌, take}
use Rattle.codespan_suggestions.specs.Private.Spans.{span_of, numbered_rows}
use Rattle.codespan_suggestions.specs.UnifiedDiffs.{old_numbers, new_numbers}
use Rattle.codespan_suggestions.proofs.hunk_spans.hunk_spans.Given as goal

-- the lines of the rows so far
abbrev pub invariant-loop-row : goal.invariant-loop-row
invariant-loop-row l =
    let before = numbered_rows (take l.row-index l.rows) in
    record {
      old : l.old ≡ span_of (old_numbers before);
      new : l.new ≡ span_of (new_numbers before);
      few_old : l.old.count ≤ l.row-index;
      few_new : l.new.count ≤ l.row-index;
    }
