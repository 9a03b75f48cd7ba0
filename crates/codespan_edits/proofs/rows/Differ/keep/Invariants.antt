use Rattle.codespan_core.proofs.Std.{◌≡◌, ◌++◌, List, drop, map}
use Rattle.codespan_edits.specs.Diffs.{Change, kept}
use Rattle.codespan_edits.specs.Private.Differs.{all_rows}
use Rattle.codespan_edits.proofs.rows.Differ.keep.Given as goal

-- with the lines left it is as it was with all of them
abbrev pub invariant-loop-line : goal.invariant-loop-line
invariant-loop-line l = (ps : List Change)
    → all_rows l.self (map kept (map (λ x. x.now) (drop l.line-index l.line-items)) ++ ps)
    ≡ all_rows l.fn.self (map kept (map (λ x. x.now) l.line-items) ++ ps)
