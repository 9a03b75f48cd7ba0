use Rattle.codespan_core.proofs.Std.{◌≡◌, ◌∙◌, arith, map, get_or-map, length-map}
use Rattle.codespan_edits.proofs.DiffLoops.{start-more, start-here, start-end}
use Rattle.codespan_edits.proofs.rows.count_start.Goals as goal

-- these lines differ
pub returns-then-ne-clause-count : goal.returns-then-ne-clause-count
returns-then-ne-clause-count c =
    start-here (map (λ x. x.now) c.args.old.now) (map (λ x. x.now) c.args.new.now)
    c.loop-count.count
    (rw length-map (omega arith)) (rw length-map (omega arith)) _ _ c.ne.result
    (get_or-map (λ x. x.now) c.args.old.now c.loop-count.count _ _ (omega arith))
    (get_or-map (λ x. x.now) c.args.new.now c.loop-count.count _ _ (omega arith)) c.ne.ensures
    c.if-ne.true c.loop-count.invariant

-- these lines are the same
pub loop-count-preserved : goal.loop-count-preserved
loop-count-preserved c =
    start-more (map (λ x. x.now) c.args.old.now) (map (λ x. x.now) c.args.new.now)
    c.loop-count.count
    (rw length-map (omega arith)) (rw length-map (omega arith)) _ _ c.ne.result
    (get_or-map (λ x. x.now) c.args.old.now c.loop-count.count _ _ (omega arith))
    (get_or-map (λ x. x.now) c.args.new.now c.loop-count.count _ _ (omega arith)) c.ne.ensures
    c.if-ne.false c.loop-count.invariant

-- the shorter list ends
pub returns-clause-count : goal.returns-clause-count
returns-clause-count c =
    let e : c.min-limit.result ≡ c.loop-count.count = omega arith in
    e
    ∙ start-end (map (λ x. x.now) c.args.old.now) (map (λ x. x.now) c.args.new.now)
    c.loop-count.count
    (simp length-map (omega arith)) c.loop-count.invariant
