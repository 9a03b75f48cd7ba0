use Rattle.codespan_core.proofs.Std.{Err, ap, sym, ◌∙◌, err_from_is_err_and}
use Rattle.std.specs.Result.{result_err}
use Rattle.codespan_edits.proofs.FaultLemmas.{first-more, first-here}
use Rattle.codespan_edits.proofs.order.check_ranges.Goals as goal

-- this edit has a fault of its own
pub returns-in_err-check_range : goal.returns-in_err-check_range
returns-in_err-check_range g c =
    let p = err_from_is_err_and c.from_residual.result c.from_residual.ensures.1 in
    ap result_err (p.1 ∙ ap Err p.2)
    ∙ sym (c.loop-index.invariant
    ∙ first-here c.args.source.now c.args.edits.now c.loop-index.index c.index-edits-index.result
    c.loop-index-test.true c.index-edits-index.is c.in_err-check_range.field-0.0
    c.in_err-check_range.ensures)

-- this edit has none
pub loop-index-preserved : goal.loop-index-preserved
loop-index-preserved g c =
    c.loop-index.invariant
    ∙ first-more c.args.source.now c.args.edits.now c.loop-index.index c.index-edits-index.result
    c.loop-index-test.true c.index-edits-index.is c.in_ok-check_range.ensures
