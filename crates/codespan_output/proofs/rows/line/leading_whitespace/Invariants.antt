use Rattle.codespan_core.proofs.Std.{◌≡◌, ◌+◌, length, IsUtf8}
use Rattle.std.specs.Str.Iter.{chars_rest}
use Rattle.codespan_output.specs.{leading_whitespace}
use Rattle.codespan_output.proofs.rows.line.leading_whitespace.Given as goal

abbrev pub invariant-loop-c : goal.invariant-loop-c
invariant-loop-c l = record {
  utf8 : IsUtf8 (chars_rest l.c-iterator);
  room : l.leading + length (chars_rest l.c-iterator) ≡ length l.text;
  so_far : l.leading + leading_whitespace (chars_rest l.c-iterator) ≡ leading_whitespace l.text;
}
