use Rattle.std.proofs.Common.{◌≡◌, length, string_bytes}
use denote.Text.{Utf8}
use denote.Shadow.{shadow}
use Rattle.program_io.specs.Escapes.{unescaped, with_prefix}
use Rattle.program_io.proofs.escapes.unescape.Given as goal

abbrev pub invariant-escapes : goal.invariant-escapes
invariant-escapes l = record {
  utf8 : shadow (Utf8 l.rest);
  continues : with_prefix (string_bytes l.plain_text) (unescaped l.rest) ≡ unescaped l.text;
}

abbrev pub decreases-escapes : goal.decreases-escapes
decreases-escapes l = length l.rest
