use Rattle.codespan_core.proofs.Std.{arith, refl, ◌-◌, ◌^◌, err_from_is_err_and}
use Rattle.codespan_core.proofs.Loops.{StillToWrite-start, StillToWrite-more, StillToWrite-failed}
use Rattle.codespan_core.proofs.Loops.{StillToWrite-last}
use Rattle.codespan_output.proofs.Outputs.RowEquations.{spaces-past}
use Rattle.codespan_output.proofs.rows.runs.write_spaces.Goals as goal

pub loop-left-init : goal.loop-left-init
loop-left-init g c = StillToWrite-start _ _ _ refl

pub returns-in_err-put_spaces : goal.returns-in_err-put_spaces
returns-in_err-put_spaces g c =
    let p = err_from_is_err_and c.from_residual.result c.from_residual.ensures.1 in
    rw p.1
    (StillToWrite-failed _ _ _ _ _ _ _ c.loop-left.invariant c.in_err-put_spaces.ensures
    (spaces-past (2 ^ 64 - 1) c.loop-left.left (omega arith)))

pub loop-left-preserved : goal.loop-left-preserved
loop-left-preserved g c =
    StillToWrite-more _ _ _ _ _ _ _ c.loop-left.invariant c.in_ok-put_spaces.ensures
    (spaces-past (2 ^ 64 - 1) c.loop-left.left (omega arith))

pub returns : goal.returns
returns g c = StillToWrite-last _ _ _ _ _ _ c.loop-left.invariant c.put_spaces-2.ensures
