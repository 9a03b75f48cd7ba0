use Rattle.codespan_core.proofs.Std.{sym, ◌∙◌}
use Rattle.codespan_edits.proofs.FaultLemmas.{neighbor-here, neighbor-more, neighbor-end}
use Rattle.codespan_edits.proofs.order.check_neighbors.Goals as goal

-- two neighbors overlap
pub returns-then-left-right : goal.returns-then-left-right
returns-then-left-right c =
    λ edits. sym (c.loop-index.invariant edits
    ∙ neighbor-here edits c.args.places.now c.loop-index.index _ c.loop-index.auto.index
    c.loop-index-test.true c.if-left-right.true)

-- these do not
pub loop-index-preserved : goal.loop-index-preserved
loop-index-preserved c =
    λ edits. c.loop-index.invariant edits
    ∙ neighbor-more edits c.args.places.now c.loop-index.index _ c.loop-index.auto.index
    c.loop-index-test.true c.if-left-right.false

-- there are no more
pub returns : goal.returns
returns c =
    λ edits. sym (c.loop-index.invariant edits
    ∙ neighbor-end edits c.args.places.now c.loop-index.index c.loop-index-test.false)
