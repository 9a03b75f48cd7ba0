use Rattle.codespan_core.proofs.Std.{◌≡◌, drop}
use Rattle.codespan_suggestions.specs.UnifiedDiffs.{needs_quotes}
use Rattle.codespan_suggestions.proofs.patch.needs_quotes.Given as goal

-- no byte before this one is such a character
abbrev pub invariant-loop-byte : goal.invariant-loop-byte
invariant-loop-byte l = needs_quotes l.name ≡ needs_quotes (drop l.byte-index l.byte-items)
