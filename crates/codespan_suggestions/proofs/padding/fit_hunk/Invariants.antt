use Rattle.codespan_core.proofs.Std.{◌≡◌, take, map, flat_map, fold, max}
use Rattle.codespan_output.specs.Padding.{count_digits}
use Rattle.codespan_edits.specs.RowViews.{numbered_row}
use Rattle.codespan_suggestions.specs.SuggestionRows.{row_numbers}
use Rattle.codespan_suggestions.proofs.padding.fit_hunk.Given as goal

-- the numbers of the rows so far fit
abbrev pub invariant-loop-row : goal.invariant-loop-row
invariant-loop-row l =
    l.width.digit_count
    ≡ fold max l.fn.width.digit_count
    (flat_map (λ r. map count_digits (row_numbers r))
    (map numbered_row (take l.row-index l.row-items)))
