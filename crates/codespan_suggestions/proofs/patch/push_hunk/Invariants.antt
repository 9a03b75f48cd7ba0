use Rattle.codespan_core.proofs.Std.{◌≡◌, ◌++◌, take, string_bytes, flat_map}
use Rattle.codespan_edits.specs.Numbers.{NumberedRow}
use Rattle.codespan_suggestions.specs.Private.Spans.{numbered_rows}
use Rattle.codespan_suggestions.specs.UnifiedDiffs.{row_text}
use Rattle.codespan_suggestions.proofs.patch.push_hunk.Given as goal

-- the rows so far are appended
abbrev pub invariant-loop-row : goal.invariant-loop-row
invariant-loop-row l =
    string_bytes l.output ≡ string_bytes l.initial.output
    ++ flat_map (λ (r : NumberedRow). row_text r.row)
    (numbered_rows (take l.row-index l.rows))
