use Rattle.codespan_core.proofs.Std.{◌≡◌, ◌++◌, ◌-◌, drop, map, get_or}
use Rattle.codespan_edits.specs.Diffs.{lines}
use Rattle.codespan_edits.proofs.CutLemmas.{cut_at}
use Rattle.codespan_edits.proofs.lines.lines_of.Given as goal

-- the lines so far, and those between the starts that are left, are all
abbrev pub invariant-loop-index : goal.invariant-loop-index
invariant-loop-index l =
    map (λ x. x.now) l.lines.items
    ++ cut_at l.text (get_or l.starts.items (l.index - 1) 0) (drop l.index l.starts.items)
    ≡ lines l.text
