use Rattle.codespan_core.proofs.Std.{ap, err_from_is_err_and, flat_map, drop_all, get_or}
use Rattle.codespan_core.proofs.Std.{get_or_default}
use Rattle.codespan_core.proofs.Loops.{StillToWrite-start, StillToWrite-more, StillToWrite-failed}
use Rattle.codespan_core.proofs.Loops.{StillToWrite-end}
use Rattle.codespan_suggestions.specs.DrawnText.{escaped}
use Rattle.codespan_suggestions.proofs.RowLoops.{texts_of_each, next_piece}
use Rattle.codespan_suggestions.proofs.row.write_escapes.Goals as goal

pub loop-byte-init : goal.loop-byte-init
loop-byte-init g c = StillToWrite-start _ _ _ (texts_of_each escaped _)

pub loop-byte-preserved : goal.loop-byte-preserved
loop-byte-preserved g c =
    StillToWrite-more _ _ _ _ _ _ _ c.loop-byte.invariant c.in_ok-write_escape.ensures
    (next_piece _ _ c.loop-byte.byte-index (get_or c.args.end.now c.loop-byte.byte-index 0)
    c.loop-byte-test.true
    (get_or_default c.args.end.now c.loop-byte.byte-index 0 _ c.loop-byte-test.true))

pub returns-in_err-write_escape : goal.returns-in_err-write_escape
returns-in_err-write_escape g c =
    let p = err_from_is_err_and c.from_residual.result c.from_residual.ensures.1 in
    rw p.1 (StillToWrite-failed _ _ _ _ _ _ _ c.loop-byte.invariant c.in_err-write_escape.ensures
    (next_piece _ _ c.loop-byte.byte-index (get_or c.args.end.now c.loop-byte.byte-index 0)
    c.loop-byte-test.true
    (get_or_default c.args.end.now c.loop-byte.byte-index 0 _ c.loop-byte-test.true)))

pub returns : goal.returns
returns g c =
    StillToWrite-end _ _ _ _ c.loop-byte.invariant
    (ap (flat_map _) (drop_all c.loop-byte.byte-index _ c.loop-byte-test.false))
