use Rattle.codespan_core.proofs.Std.{◌++◌, Some, ap, string_bytes, sym, ◌∙◌, rules}
use Rattle.std.specs.Prelude.{encode_utf8}
use Rattle.std.specs.Result.{result_ok}
use Rattle.program_io.specs.Escapes.{unescaped, with_prefix}
use Rattle.program_io.proofs.Escaping.{all_plain, one_bad, one_more, prefix_appended}
use Rattle.program_io.proofs.escapes.unescape.Goals as goal

pub returns-in_default-parse_escape : goal.returns-in_default-parse_escape
returns-in_default-parse_escape c =
    sym (ap (λ r. result_ok (with_prefix (string_bytes c.escapes.plain_text) r))
    (one_bad c.escapes.rest.now (c.in-Some.plain, c.in-Some.escape) c.in-Some.ensures.cases
    c.in_default-parse_escape.ensures.parsed))
    ∙ ap result_ok c.escapes.invariant.continues

pub escapes-preserved : goal.escapes-preserved
escapes-preserved c = record {
  utf8 = search rules;
  continues =
      prefix_appended (string_bytes c.escapes.plain_text) c.in-Some.plain.now
      (encode_utf8 c.in-Some-parse_escape.character) (string_bytes c.push.new.self)
      (unescaped c.in-Some-parse_escape.left.now)
      (c.in_ok-push.ensures.bytes
      ∙ ap (λ front. front ++ encode_utf8 c.in-Some-parse_escape.character)
      c.in_ok-push_str.ensures.bytes)
      ∙ sym (ap (with_prefix (string_bytes c.escapes.plain_text))
      (one_more c.escapes.rest.now c.in-Some-parse_escape.left.now
      c.in-Some-parse_escape.character (c.in-Some.plain, c.in-Some.escape)
      c.in-Some.ensures.cases c.in-Some-parse_escape.ensures.parsed))
      ∙ c.escapes.invariant.continues;
}

pub returns : goal.returns
returns c =
    ap (λ bytes. Some bytes) c.in_ok-push_str-2.ensures.bytes
    ∙ sym (ap (λ r. result_ok (with_prefix (string_bytes c.escapes.plain_text) r))
    (all_plain c.escapes.rest.now c.in_default.ensures.cases))
    ∙ ap result_ok c.escapes.invariant.continues
