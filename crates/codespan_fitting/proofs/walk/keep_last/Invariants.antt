use Rattle.std.proofs.Common.{◌-◌, ◌≤◌}
use Rattle.std.specs.Iterator.Adapters.{rev_source}
use Rattle.std.specs.Str.{chars}
use Rattle.std.specs.Str.Iter.{chars_rest}
use Rattle.codespan_fitting.specs.Walks.{IsBehind, IsPassed}
use Rattle.codespan_fitting.proofs.walk.keep_last.Given as goal

abbrev pub invariant-loop-c : goal.invariant-loop-c
invariant-loop-c l = record {
  behind : IsBehind l.text l.at (chars_rest (rev_source l.c-iterator));
  left : l.left ≤ l.radius;
  passed : IsPassed l.tab_width (chars l.text) (chars (chars_rest (rev_source l.c-iterator)))
      l.start (l.radius - l.left);
}
