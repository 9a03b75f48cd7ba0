use Rattle.codespan_core.proofs.Std.{refl, err_from_is_err_and}
use Rattle.codespan_suggestions.proofs.RowLoops.{then-writes, first-fails}
use Rattle.codespan_suggestions.proofs.rows.write_later_hunk.Goals as goal

pub returns-in_err-write_break : goal.returns-in_err-write_break
returns-in_err-write_break g c =
    let p = err_from_is_err_and c.from_residual.result c.from_residual.ensures.1 in
    rw p.1 (first-fails _ _ _ _ _ c.in_err-write_break.ensures (refl))

pub returns : goal.returns
returns g c = then-writes _ _ _ _ _ _ _ c.in_ok-write_break.ensures c.write_hunk.ensures (refl)
