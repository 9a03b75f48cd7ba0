use Rattle.codespan_core.proofs.Std.{◌-◌, drop}
use Rattle.codespan_output.specs.Private.{context_view, lanes_view, row_lanes_stream}
use Rattle.codespan_core.proofs.Loops.{StillToWrite}
use Rattle.codespan_output.proofs.Lanes.Cursor.{cursor}
use Rattle.codespan_output.proofs.rows.lanes.inner_gutter_columns.Given as goal

abbrev pub invariant-loop-lane : goal.invariant-loop-lane
invariant-loop-lane g l =
    StillToWrite (g.W.PutStyle.sink l.fn.w)
    (row_lanes_stream (context_view l.context) l.leading l.row (lanes_view l.lanes))
    (cursor (context_view l.context) l.leading l.row l.lane (l.lanes.count - l.lane)
    (drop l.next l.lanes.lane_marks.now))
    (g.W.PutStyle.sink l.w)

abbrev pub decreases-loop-lane : goal.decreases-loop-lane
decreases-loop-lane g l = l.lanes.count - l.lane
