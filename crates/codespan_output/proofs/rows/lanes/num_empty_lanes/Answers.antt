use Rattle.codespan_core.proofs.Std.{refl, arith, rules, le-ltb, ◌≤◌}
use Rattle.codespan_output.proofs.rows.lanes.num_empty_lanes.Goals.{in-Source, in-Underline}
use Rattle.codespan_output.proofs.rows.lanes.num_empty_lanes.Goals as goal

-- up to the corner no underline crosses a lane
pub returns-clause-no_crossing : goal.returns-clause-no_crossing
returns-clause-no_crossing c = λ other low high. elim c.match-row.branch [
  | in-Underline w ↦ let left : other ≤ w.in-Underline.corner_lane =
      omega (arith, w.end-is, low, high) in
      rw (w.in-Underline.is, le-ltb w.in-Underline.corner_lane other left) refl
  | in-Source w ↦ search rules
]
