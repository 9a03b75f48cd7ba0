use Rattle.std.proofs.Common.{◌≡◌, ◌+◌, ◌-◌, ◌≤◌}
use Rattle.std.specs.Str.{chars}
use Rattle.std.specs.Str.Iter.{chars_rest}
use Rattle.codespan_fitting.specs.Walks.{IsAhead, bytes_within, cells_within}
use Rattle.codespan_fitting.proofs.walk.keep_first.Given as goal

abbrev pub invariant-loop-c : goal.invariant-loop-c
invariant-loop-c l = record {
  ahead : IsAhead l.text l.end (chars_rest l.c-iterator);
  left : l.left ≤ l.radius;
  bytes : l.end + bytes_within l.tab_width l.left (chars (chars_rest l.c-iterator))
      ≡ bytes_within l.tab_width l.radius (chars l.text);
  cells : l.radius - l.left
      + cells_within l.tab_width l.left (chars (chars_rest l.c-iterator))
      ≡ cells_within l.tab_width l.radius (chars l.text);
}
