use Rattle.codespan_core.proofs.Std.{err_from_is_err_and}
use Rattle.codespan_suggestions.proofs.RowLoops.{then-writes, first-fails, end-parts, nonempty}
use Rattle.codespan_suggestions.proofs.row.write_end_text.Goals as goal

pub returns-in_err-put_all : goal.returns-in_err-put_all
returns-in_err-put_all g c =
    let p = err_from_is_err_and c.from_residual.result c.from_residual.ensures.1 in
    rw p.1 (first-fails _ _ _ _ _ c.in_err-put_all.ensures
    (end-parts c.args.end.now (nonempty _ _ c.is_empty.ensures c.if-is_empty.false)))

pub returns : goal.returns
returns g c =
    then-writes _ _ _ _ _ _ _ c.in_ok-put_all.ensures c.write_escapes.ensures
    (end-parts c.args.end.now (nonempty _ _ c.is_empty.ensures c.if-is_empty.false))
