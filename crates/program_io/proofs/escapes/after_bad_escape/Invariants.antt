use Rattle.std.proofs.Common.{◌≡◌, ◌≤◌, length}
use denote.Text.{Utf8}
use denote.Shadow.{shadow}
use Rattle.std.specs.Result.{result_err}
use Rattle.program_io.specs.Escapes.{unescaped}
use Rattle.program_io.proofs.escapes.after_bad_escape.Given as goal

abbrev pub invariant-escapes : goal.invariant-escapes
invariant-escapes l = record {
  utf8 : shadow (Utf8 l.rest);
  within : length l.rest ≤ length l.text;
  same : result_err (unescaped l.rest) ≡ result_err (unescaped l.text);
}

abbrev pub decreases-escapes : goal.decreases-escapes
decreases-escapes l = length l.rest
