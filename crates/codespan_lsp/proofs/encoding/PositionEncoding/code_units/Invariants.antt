use Rattle.std.proofs.Common.{◌≡◌, ◌+◌, ◌≤◌, length}
use Rattle.std.specs.Str.{IsUtf8}
use Rattle.std.specs.Str.Iter.{chars_rest}
use Rattle.codespan_lsp.specs.Units.{code_units}
use Rattle.codespan_lsp.proofs.encoding.PositionEncoding.code_units.Given as goal

abbrev pub invariant-loop-c : goal.invariant-loop-c
invariant-loop-c l = record {
  utf8 : IsUtf8 (chars_rest l.c-iterator);
  fits : l.units + length (chars_rest l.c-iterator) ≤ length l.text;
  so_far : l.units + code_units l.self (chars_rest l.c-iterator) ≡ code_units l.self l.text;
}
