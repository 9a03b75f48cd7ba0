use Rattle.codespan_core.proofs.Std.{◌≡◌, [], arith, refl, sym, drop, common_steps}
use Rattle.codespan_core.proofs.Std.{err_from_is_err_and}
use Rattle.codespan_core.proofs.Loops.{StillToWrite-start, StillToWrite-more, StillToWrite-same}
use Rattle.codespan_core.proofs.Loops.{StillToWrite-failed, StillToWrite-end}
use Rattle.codespan_output.proofs.Lanes.UnderlineRows.{underlines-in, underlines-out, width-some}
use Rattle.codespan_output.proofs.Lanes.UnderlineRows.{width-none}
use Rattle.codespan_output.proofs.rows.underlines.write_underlines.Goals.{in-Some+in_ok-write_underline_row}
use Rattle.codespan_output.proofs.rows.underlines.write_underlines.Goals.{in_default}
use Rattle.codespan_output.proofs.rows.underlines.write_underlines.Goals as goal

pub loop-lane_mark-init : goal.loop-lane_mark-init
loop-lane_mark-init g c = StillToWrite-start _ _ _ refl

pub returns-in_err-write_underline_row : goal.returns-in_err-write_underline_row
returns-in_err-write_underline_row g c =
    let p = err_from_is_err_and c.from_residual.result c.from_residual.ensures.1 in
    rw p.1
    (StillToWrite-failed _ _ _ _ _ _ _ c.loop-lane_mark.invariant
    c.in_err-write_underline_row.ensures
    (underlines-in _ _ c.args.rows.now.line.leading c.args.rows.now.line.lanes.lane_marks.now
    c.loop-lane_mark.lane_mark-index _ (omega arith) c.args.rows.now.line.measured
    (width-some _ _ _ (sym c.in-Some.ensures)).0))

pub loop-lane_mark-preserved : goal.loop-lane_mark-preserved
loop-lane_mark-preserved g c = elim c.match-underline_width.branch [
  | in-Some+in_ok-write_underline_row w ↦ rw w.w-is
      (StillToWrite-more _ _ _ _ _ _ _ c.loop-lane_mark.invariant
      w.in_ok-write_underline_row.ensures
      (underlines-in _ _ c.args.rows.now.line.leading c.args.rows.now.line.lanes.lane_marks.now
      c.loop-lane_mark.lane_mark-index _ (omega arith) c.args.rows.now.line.measured
      (width-some _ _ _ (sym w.in-Some.ensures)).0))
  | in_default w ↦ rw w.w-is (StillToWrite-same _ _ _ _ _
      (underlines-out _ _ c.args.rows.now.line.leading c.args.rows.now.line.lanes.lane_marks.now
      c.loop-lane_mark.lane_mark-index _ (omega arith) c.args.rows.now.line.measured
      (width-none _ _ (sym w.in_default.ensures)))
      c.loop-lane_mark.invariant)
]

pub returns : goal.returns
returns g c =
    StillToWrite-end _ _ _ _ c.loop-lane_mark.invariant
    (let e : drop c.loop-lane_mark.lane_mark-index c.args.rows.now.line.lanes.lane_marks.now
    ≡ [] =
    grind (arith, common_steps) in rw e refl)

pub write_underline_row-requires : goal.write_underline_row-requires
write_underline_row-requires g c =
    rw c.args.rows.now.input at (width-some _ _ _ (sym c.in-Some.ensures)).1
