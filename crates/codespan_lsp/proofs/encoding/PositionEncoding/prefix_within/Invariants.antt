use Rattle.std.proofs.Common.{◌≡◌, ◌+◌, ◌-◌, ◌≤◌, length}
use Rattle.std.specs.Prelude.{encode_utf8_all}
use Rattle.std.specs.Str.{chars, IsUtf8}
use Rattle.std.specs.Str.Iter.{chars_rest}
use Rattle.codespan_lsp.specs.Units.{total_units, prefix_within}
use Rattle.codespan_lsp.proofs.encoding.PositionEncoding.prefix_within.Given as goal

abbrev pub invariant-loop-c : goal.invariant-loop-c
invariant-loop-c l =
    let whole = prefix_within l.self l.max_units (chars l.text) in
    let rest = prefix_within l.self (l.max_units - l.units) (chars (chars_rest l.c-iterator)) in
    record {
      utf8 : IsUtf8 (chars_rest l.c-iterator);
      within : l.units ≤ l.max_units;
      lengths : l.len + length (chars_rest l.c-iterator) ≡ length l.text;
      bytes : l.len + length (encode_utf8_all rest) ≡ length (encode_utf8_all whole);
      units : l.units + total_units l.self rest ≡ total_units l.self whole;
    }
