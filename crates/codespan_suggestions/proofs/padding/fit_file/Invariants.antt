use Rattle.codespan_core.proofs.Std.{◌≡◌, take, map, flat_map, fold, max}
use Rattle.codespan_output.specs.Padding.{count_digits}
use Rattle.codespan_suggestions.specs.SuggestionRows.{row_numbers}
use Rattle.codespan_suggestions.specs.Private.FileViews.{hunk_view}
use Rattle.codespan_suggestions.proofs.padding.fit_file.Given as goal

-- the numbers of the hunks so far fit
abbrev pub invariant-loop-hunk : goal.invariant-loop-hunk
invariant-loop-hunk l =
    l.width.digit_count
    ≡ fold max l.fn.width.digit_count
    (flat_map (flat_map (λ r. map count_digits (row_numbers r)))
    (map hunk_view (take l.hunk-index l.hunk-items)))
