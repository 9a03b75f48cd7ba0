use Rattle.std.proofs.Common.{◌≡◌, ◌++◌, string_bytes}
use Rattle.std.specs.Str.{IsUtf8}
use Rattle.std.specs.Str.Iter.{chars_rest}
use Rattle.codespan_styled.specs.Html.{escaped_text}
use Rattle.codespan_styled.proofs.html.push_text.Given as goal

abbrev pub invariant-loop-c : goal.invariant-loop-c
invariant-loop-c l = record {
  utf8 : IsUtf8 (chars_rest l.c-iterator);
  left : string_bytes l.html ++ escaped_text (chars_rest l.c-iterator) ≡ string_bytes
      l.initial.html ++ escaped_text l.text;
}
