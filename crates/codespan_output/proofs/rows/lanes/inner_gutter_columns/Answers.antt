use Rattle.codespan_core.proofs.Std.{arith, drop, err_from_is_err_and}
use Rattle.codespan_core.proofs.Loops.{StillToWrite-start, StillToWrite-more, StillToWrite-failed}
use Rattle.codespan_core.proofs.Loops.{StillToWrite-end}
use Rattle.codespan_output.proofs.Lanes.Cursor.{cursor-empty_lanes, cursor-next, cursor-end}
use Rattle.codespan_output.proofs.Lanes.Cursor.{cursor-lanes}
use Rattle.codespan_output.proofs.rows.lanes.inner_gutter_columns.Goals as goal

pub loop-lane-init : goal.loop-lane-init
loop-lane-init g c = StillToWrite-start _ _ _ (cursor-lanes _ _ _ _ _ c.args.lanes.in_order)

pub returns-in_err-inner_gutter_column : goal.returns-in_err-inner_gutter_column
returns-in_err-inner_gutter_column g c =
    let p = err_from_is_err_and c.from_residual-in_err-inner_gutter_column.result
    c.from_residual-in_err-inner_gutter_column.ensures.1 in
    rw p.1
    (StillToWrite-failed _ _ _ _ _ _ _ c.loop-lane.invariant
    (rw c.take_lane_mark-after.ensures.lane_mark at c.in_err-inner_gutter_column.ensures)
    (cursor-next _ _ _ c.loop-lane.lane c.args.lanes.count
    (drop c.loop-lane.next c.args.lanes.lane_marks.now) (omega arith)))

pub loop-lane-preserved : goal.loop-lane-preserved
loop-lane-preserved g c =
    StillToWrite-more _ _ _ _ _ _ _ c.loop-lane.invariant c.in_ok-inner_gutter_column.ensures
    (let e = c.take_lane_mark-after.ensures.lane_mark in
    let d = c.take_lane_mark-after.ensures.after in
    rw (e, d) (cursor-next _ _ _ c.loop-lane.lane c.args.lanes.count _ (omega arith)))

pub returns-in_err-put_spaces : goal.returns-in_err-put_spaces
returns-in_err-put_spaces g c =
    let p = err_from_is_err_and c.from_residual.result c.from_residual.ensures.1 in
    rw p.1 (StillToWrite-failed _ _ _ _ _ _ _ c.loop-lane.invariant c.in_err-put_spaces.ensures
    (cursor-empty_lanes _ _ _ (drop c.loop-lane.next c.args.lanes.lane_marks.now) c.args.lanes.count
    c.loop-lane.lane c.next_lane.result c.num_empty_lanes-num_empty.result c.loop-lane-test.true
    c.next_lane.ensures.within c.num_empty_lanes-num_empty.ensures.within
    c.num_empty_lanes-num_empty.ensures.no_crossing c.next_lane.ensures.no_lane_mark))

pub loop-lane-preserved-then-num_empty-gt0 : goal.loop-lane-preserved-then-num_empty-gt0
loop-lane-preserved-then-num_empty-gt0 g c =
    StillToWrite-more _ _ _ _ _ _ _ c.loop-lane.invariant c.in_ok-put_spaces.ensures
    (cursor-empty_lanes _ _ _ (drop c.loop-lane.next c.args.lanes.lane_marks.now) c.args.lanes.count
    c.loop-lane.lane c.next_lane.result c.num_empty_lanes-num_empty.result c.loop-lane-test.true
    c.next_lane.ensures.within c.num_empty_lanes-num_empty.ensures.within
    c.num_empty_lanes-num_empty.ensures.no_crossing c.next_lane.ensures.no_lane_mark)

pub returns : goal.returns
returns g c = StillToWrite-end _ _ _ _ c.loop-lane.invariant (cursor-end _ _ _ _ _ _ (omega arith))
