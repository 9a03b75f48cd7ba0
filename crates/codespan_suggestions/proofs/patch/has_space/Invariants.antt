use Rattle.codespan_core.proofs.Std.{◌≡◌, drop}
use Rattle.codespan_suggestions.specs.UnifiedDiffs.{has_space}
use Rattle.codespan_suggestions.proofs.patch.has_space.Given as goal

-- no byte before this one is such a character
abbrev pub invariant-loop-byte : goal.invariant-loop-byte
invariant-loop-byte l = has_space l.name ≡ has_space (drop l.byte-index l.byte-items)
