use Rattle.codespan_core.proofs.Std.{◌≡◌, ◌++◌, drop, map}
use Rattle.codespan_edits.specs.Diffs.{rows_with}
use Rattle.codespan_edits.specs.RowViews.{rows_view}
use Rattle.codespan_edits.proofs.rows.push_rows.Given as goal

-- the rows so far, and those of the lines left, are all
abbrev pub invariant-loop-line : goal.invariant-loop-line
invariant-loop-line l =
    rows_view l.rows ++ rows_with l.sign (map (λ x. x.now) (drop l.line-index l.lines))
    ≡ rows_view l.fn.rows ++ rows_with l.sign (map (λ x. x.now) l.lines)
