use Rattle.std.proofs.Common.{◌≡◌, ◌++◌, string_bytes}
use Rattle.std.specs.Str.{encode_utf8_all}
use Rattle.codespan_styled.specs.SafeText.{safe_characters}
use Rattle.codespan_styled.proofs.safe.push_safe.Given as goal

abbrev pub invariant-loop-c : goal.invariant-loop-c
invariant-loop-c l =
    string_bytes l.safe ≡ string_bytes l.initial.safe
    ++ encode_utf8_all (safe_characters l.yielded)
