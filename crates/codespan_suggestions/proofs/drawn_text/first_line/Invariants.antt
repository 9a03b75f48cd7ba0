use Rattle.codespan_core.proofs.Std.{◌≡◌, ◌++◌, drop, take}
use Rattle.codespan_edits.specs.Diffs.{lines}
use Rattle.codespan_suggestions.specs.DrawnText.{first_line}
use Rattle.codespan_suggestions.proofs.drawn_text.first_line.Given as goal

-- the bytes so far and the first line of those left are the first line
abbrev pub invariant-loop-index : goal.invariant-loop-index
invariant-loop-index l =
    first_line (lines l.text) ≡ take l.index l.text ++ first_line (lines (drop l.index l.text))
