use Rattle.std.proofs.Common.{◌≡◌, drop}
use Rattle.codespan_native.specs.StatedLines.{are_lines, are_next_lines}
use Rattle.codespan_native.proofs.stated_lines.are_lines.Given as goal

-- the lines that are left decide
abbrev pub invariant-loop-line : goal.invariant-loop-line
invariant-loop-line l =
    are_next_lines l.text l.first_byte l.start l.end (drop l.line-index l.rest)
    ≡ are_lines l.text l.first_byte l.lines
