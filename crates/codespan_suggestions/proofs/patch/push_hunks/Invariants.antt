use Rattle.codespan_core.proofs.Std.{◌≡◌, ◌++◌, take, string_bytes, flat_map}
use Rattle.codespan_suggestions.specs.Private.Spans.{rows_of_hunks}
use Rattle.codespan_suggestions.specs.UnifiedDiffs.{hunk_text}
use Rattle.codespan_suggestions.proofs.patch.push_hunks.Given as goal

-- the hunks so far are appended
abbrev pub invariant-loop-hunk : goal.invariant-loop-hunk
invariant-loop-hunk l =
    string_bytes l.output ≡ string_bytes l.initial.output
    ++ flat_map hunk_text (rows_of_hunks (take l.hunk-index l.hunks))
