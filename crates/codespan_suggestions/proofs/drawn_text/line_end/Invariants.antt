use Rattle.codespan_core.proofs.Std.{◌≡◌, ◌+◌, ◌≤◌, length, take}
use Rattle.std.specs.List.{suffix_len}
use Rattle.codespan_output.specs.CharMetrics.{is_line_end}
use Rattle.codespan_suggestions.proofs.drawn_text.line_end.Given as goal

-- each byte from this one on is one of the end
abbrev pub invariant-loop-start : goal.invariant-loop-start
invariant-loop-start l = record {
  within : l.start ≤ length l.line;
  trimmed : length l.line + suffix_len is_line_end (take l.start l.line)
      ≡ l.start + suffix_len is_line_end l.line;
}

abbrev pub decreases-loop-start : goal.decreases-loop-start
decreases-loop-start l = l.start
