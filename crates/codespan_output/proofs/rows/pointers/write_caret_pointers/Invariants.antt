use Rattle.codespan_core.proofs.Std.{length}
use Rattle.codespan_output.specs.Private.{context_view, pointers_before, spaced}
use Rattle.codespan_output.specs.Private.{pointers_before_stream}
use Rattle.codespan_core.proofs.Loops.{StillToWrite}
use Rattle.codespan_output.proofs.rows.pointers.write_caret_pointers.Given as goal

-- the remaining pointers are still to be written
abbrev pub invariant-loop-pointer : goal.invariant-loop-pointer
invariant-loop-pointer g l =
    StillToWrite (g.W.PutStyle.sink l.fn.w)
    (pointers_before_stream l.rows.context l.rows.line l.byte_index l.edge)
    (spaced (context_view l.rows.context) l.edge l.column
    (pointers_before l.byte_index (g.S.Pointers.PointerCursor.remaining l.pointers)))
    (g.W.PutStyle.sink l.w)

abbrev pub decreases-loop-pointer : goal.decreases-loop-pointer
decreases-loop-pointer g l = length (g.S.Pointers.PointerCursor.remaining l.pointers)
