use Rattle.std.proofs.Common.{◌≡◌, ◌+◌, ◌≤◌}
use Rattle.std.specs.Str.{chars, IsUtf8}
use Rattle.std.specs.Str.Iter.{chars_rest}
use Rattle.codespan_fitting.proofs.TextCells.{cells_from}
use Rattle.codespan_fitting.proofs.measure.text_fits.Given as goal

abbrev pub invariant-loop-c : goal.invariant-loop-c
invariant-loop-c l = record {
  utf8 : IsUtf8 (chars_rest l.c-iterator);
  within : l.column ≤ l.left;
  cells : l.column + cells_from l.tab_width l.column (chars (chars_rest l.c-iterator))
      ≡ cells_from l.tab_width 0 (chars l.text);
}
