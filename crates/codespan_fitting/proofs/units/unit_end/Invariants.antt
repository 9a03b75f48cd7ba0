use Rattle.codespan_core.proofs.Std.{chars, drop}
use Rattle.std.specs.Str.Iter.{chars_rest}
use Rattle.codespan_fitting.specs.Walks.{IsAhead}
use Rattle.codespan_fitting.proofs.UnitSteps.{IsAfterJoined}
use Rattle.codespan_fitting.proofs.units.unit_end.Given as goal

abbrev pub invariant-loop-c : goal.invariant-loop-c
invariant-loop-c l = record {
  ahead : IsAhead l.text l.end (chars_rest l.c-iterator);
  passed : IsAfterJoined l.tab_width (chars (drop l.initial.end l.text)) l.initial.end l.end
      (chars (chars_rest l.c-iterator));
}
