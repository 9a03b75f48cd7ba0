use Rattle.codespan_core.proofs.Std.{chars, take}
use Rattle.std.specs.Iterator.Adapters.{rev_source}
use Rattle.std.specs.Str.Iter.{chars_rest}
use Rattle.codespan_fitting.specs.Walks.{IsBehind}
use Rattle.codespan_fitting.proofs.UnitSteps.{IsBeforeJoined}
use Rattle.codespan_fitting.proofs.units.unit_start.Given as goal

abbrev pub invariant-loop-c : goal.invariant-loop-c
invariant-loop-c l = record {
  behind : IsBehind l.text l.start (chars_rest (rev_source l.c-iterator));
  passed : IsBeforeJoined l.tab_width (chars (take l.initial.start l.text))
      (chars (chars_rest (rev_source l.c-iterator)));
}
