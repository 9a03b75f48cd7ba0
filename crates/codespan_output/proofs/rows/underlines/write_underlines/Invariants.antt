use Rattle.codespan_core.proofs.Std.{drop}
use Rattle.codespan_output.specs.Private.{context_view, line_view, underline_rows}
use Rattle.codespan_output.specs.{stream_of_rows}
use Rattle.codespan_core.proofs.Loops.{StillToWrite}
use Rattle.codespan_output.proofs.Lanes.UnderlineRows.{underlines_of}
use Rattle.codespan_output.proofs.rows.underlines.write_underlines.Given as goal

abbrev pub invariant-loop-lane_mark : goal.invariant-loop-lane_mark
invariant-loop-lane_mark g l =
    StillToWrite (g.W.PutStyle.sink l.fn.w)
    (stream_of_rows (context_view l.rows.context) (underline_rows (line_view l.rows.line)))
    (underlines_of (context_view l.rows.context) (line_view l.rows.line)
    (drop l.lane_mark-index l.lane_mark-items))
    (g.W.PutStyle.sink l.w)
