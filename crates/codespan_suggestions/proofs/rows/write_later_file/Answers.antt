use Rattle.codespan_core.proofs.Std.{refl, err_from_is_err_and}
use Rattle.codespan_suggestions.proofs.RowLoops.{then-writes, first-fails}
use Rattle.codespan_suggestions.proofs.rows.write_later_file.Goals as goal

pub returns-in_err-write_empty : goal.returns-in_err-write_empty
returns-in_err-write_empty g c =
    let p = err_from_is_err_and c.from_residual.result c.from_residual.ensures.1 in
    rw p.1 (first-fails _ _ _ _ _ c.in_err-write_empty.ensures (refl))

pub returns : goal.returns
returns g c = then-writes _ _ _ _ _ _ _ c.in_ok-write_empty.ensures c.write_file.ensures (refl)
