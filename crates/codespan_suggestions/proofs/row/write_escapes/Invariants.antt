use Rattle.codespan_core.proofs.Std.{drop, flat_map}
use Rattle.codespan_core.specs.Streams.{byte_stream}
use Rattle.codespan_core.proofs.Loops.{StillToWrite}
use Rattle.codespan_suggestions.specs.DrawnText.{escaped}
use Rattle.codespan_suggestions.proofs.row.write_escapes.Given as goal

-- the escapes left are still to be written
abbrev pub invariant-loop-byte : goal.invariant-loop-byte
invariant-loop-byte g l =
    StillToWrite (g.W.PutStyle.sink l.fn.w) (byte_stream (flat_map escaped l.end))
    (flat_map (λ b. byte_stream (escaped b)) (drop l.byte-index l.end))
    (g.W.PutStyle.sink l.w)
