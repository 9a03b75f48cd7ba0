use Rattle.codespan_core.proofs.Std.{◌≡◌, ◌+◌, drop, map}
use Rattle.codespan_edits.specs.Diffs.{common_start}
use Rattle.codespan_edits.proofs.rows.count_start.Given as goal

-- the lines before this one are in common
abbrev pub invariant-loop-count : goal.invariant-loop-count
invariant-loop-count l =
    common_start (map (λ x. x.now) l.old) (map (λ x. x.now) l.new)
    ≡ l.count + common_start (drop l.count (map (λ x. x.now) l.old))
    (drop l.count (map (λ x. x.now) l.new))
