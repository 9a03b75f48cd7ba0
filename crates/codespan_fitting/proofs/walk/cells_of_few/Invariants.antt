use Rattle.std.proofs.Common.{◌≡◌, ◌+◌, ◌*◌, ◌≤◌}
use Rattle.std.specs.Str.{chars, IsUtf8}
use Rattle.std.specs.Str.Iter.{chars_rest}
use Rattle.codespan_fitting.specs.Walks.{begun_units, char_cells}
use Rattle.codespan_fitting.proofs.walk.cells_of_few.Given as goal

abbrev pub invariant-loop-c : goal.invariant-loop-c
invariant-loop-c l = record {
  utf8 : IsUtf8 (chars_rest l.c-iterator);
  some : 1 ≤ l.units;
  few : l.units ≤ 3;
  bound : l.cells ≤ l.units * 18446744073709551616;
  units : l.units + begun_units l.tab_width (chars (chars_rest l.c-iterator))
      ≡ 1 + begun_units l.tab_width (chars (chars_rest l.initial.c-iterator));
  cells : l.cells + char_cells l.tab_width (chars (chars_rest l.c-iterator))
      ≡ char_cells l.tab_width (chars l.text);
}
