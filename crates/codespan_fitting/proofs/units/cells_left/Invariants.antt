use Rattle.std.proofs.Common.{◌≡◌, ◌+◌}
use Rattle.std.specs.Str.{chars, IsUtf8}
use Rattle.std.specs.Str.Iter.{chars_rest}
use Rattle.codespan_fitting.specs.Walks.{char_cells}
use Rattle.codespan_fitting.proofs.units.cells_left.Given as goal

abbrev pub invariant-loop-c : goal.invariant-loop-c
invariant-loop-c l = record {
  utf8 : IsUtf8 (chars_rest l.c-iterator);
  cells : l.left + char_cells l.tab_width (chars l.text)
      ≡ l.initial.left + char_cells l.tab_width (chars (chars_rest l.c-iterator));
}
