use Rattle.codespan_core.proofs.Std.{◌≡◌, ◌+◌, ◌≤◌, length, take, IsCharBoundary}
use Rattle.std.specs.List.{suffix_len}
use Rattle.codespan_output.specs.{is_line_end}
use Rattle.codespan_output.proofs.rows.line.text_without_line_end.Given as goal

abbrev pub invariant-loop-end : goal.invariant-loop-end
invariant-loop-end l = record {
  within : l.end ≤ length l.source;
  boundary : IsCharBoundary l.source l.end;
  trimmed : length l.source + suffix_len is_line_end (take l.end l.source) ≡ l.end + suffix_len
      is_line_end l.source;
}

abbrev pub decreases-loop-end : goal.decreases-loop-end
decreases-loop-end l = l.end
