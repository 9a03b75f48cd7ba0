use Rattle.codespan_core.proofs.Std.{◌≡◌, ◌≤◌, ◌+◌}
use Rattle.codespan_suggestions.specs.DrawnText.{location_in}
use Rattle.codespan_suggestions.proofs.drawn_text.location_in.Given as goal

-- the location is that of the bytes so far
abbrev pub invariant-loop-index : goal.invariant-loop-index
invariant-loop-index l = record {
  line : l.location.line_number ≤ l.index + 1;
  column : l.location.column_number ≤ l.index + 1;
  location : l.location ≡ location_in l.text l.index;
}
