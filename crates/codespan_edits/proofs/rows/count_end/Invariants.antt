use Rattle.codespan_core.proofs.Std.{◌≡◌, ◌+◌, drop, map, reverse}
use Rattle.codespan_edits.specs.Diffs.{common_start}
use Rattle.codespan_edits.proofs.rows.count_end.Given as goal

-- the lines after this one are in common
abbrev pub invariant-loop-count : goal.invariant-loop-count
invariant-loop-count l =
    let olds = reverse (map (λ x. x.now) l.old) in
    let news = reverse (map (λ x. x.now) l.new) in
    common_start olds news ≡ l.count + common_start (drop l.count olds) (drop l.count news)
