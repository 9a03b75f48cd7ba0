use Rattle.codespan_core.proofs.Std.{◌≡◌, ◌∙◌, arith, map, reverse, length-map}
use Rattle.std.proofs.lemmas.List.{length-reverse}
use Rattle.codespan_edits.proofs.DiffLoops.{line-from_end, start-more, start-here, start-end}
use Rattle.codespan_edits.proofs.rows.count_end.Goals as goal

-- these lines differ
pub returns-then-ne-clause-count : goal.returns-then-ne-clause-count
returns-then-ne-clause-count c =
    start-here (reverse (map (λ x. x.now) c.args.old.now))
    (reverse (map (λ x. x.now) c.args.new.now)) c.loop-count.count
    (rw (length-reverse, length-map) (omega arith)) (rw (length-reverse, length-map) (omega arith))
    _ _ c.ne.result
    (line-from_end c.args.old.now c.loop-count.count _ (omega arith))
    (line-from_end c.args.new.now c.loop-count.count _ (omega arith)) c.ne.ensures
    c.if-ne.true c.loop-count.invariant

-- these lines are the same
pub loop-count-preserved : goal.loop-count-preserved
loop-count-preserved c =
    start-more (reverse (map (λ x. x.now) c.args.old.now))
    (reverse (map (λ x. x.now) c.args.new.now)) c.loop-count.count
    (rw (length-reverse, length-map) (omega arith)) (rw (length-reverse, length-map) (omega arith))
    _ _ c.ne.result
    (line-from_end c.args.old.now c.loop-count.count _ (omega arith))
    (line-from_end c.args.new.now c.loop-count.count _ (omega arith)) c.ne.ensures
    c.if-ne.false c.loop-count.invariant

-- the shorter list ends
pub returns-clause-count : goal.returns-clause-count
returns-clause-count c =
    let e : c.min-limit.result ≡ c.loop-count.count = omega arith in
    e
    ∙ start-end (reverse (map (λ x. x.now) c.args.old.now))
    (reverse (map (λ x. x.now) c.args.new.now)) c.loop-count.count
    (simp (length-reverse, length-map) (omega arith)) c.loop-count.invariant
