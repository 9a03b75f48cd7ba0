use Rattle.codespan_core.proofs.Std.{ℕ, ◌<◌, ◌==◌, ◌∙◌, ap, Bool, refl, arith, set}
use Rattle.codespan_core.proofs.Std.{length, ne_eqb, length-append, ◌++◌, ◌∷◌, []}
use Rattle.codespan_core.proofs.Std.{common_steps}
use Rattle.codespan_views.specs.declared.annotation.order.TheConstants.{MOVED}
use Rattle.codespan_views.proofs.Annotations.KeptElements.{AreKept, AreKept-all, AreKept-more}
use Rattle.codespan_views.proofs.annotation.order.follow_chains.Given.{Over}
use Rattle.codespan_views.proofs.annotation.order.follow_chains.Goals as goal

-- which annotations were moved
abbrev is_moved : ℕ → Bool
is_moved n = n == MOVED

pub push_reserved-requires : goal.push_reserved-requires
push_reserved-requires g c =
    let room = (AreKept-more is_moved c.args.next.now _ _ _ c.loop-index.index MOVED
    c.index-annotations-index.result c.loop-index.invariant.moved (omega arith)
    c.loop-index-test.true (ne_eqb _ MOVED c.if-following.false) refl
    c.index-annotations-index.is).1 in
    omega (arith, c.loop-index.moved.ok.0, c.loop-index.invariant.room, room)

-- one more was moved, and there was room for it
more : (g : Over) (c : goal.After-push_reserved g)
    → AreKept is_moved c.args.next.now (set c.loop-index.next c.loop-index.index MOVED)
    c.args.annotations.now (c.loop-index.moved.items ++ c.index-annotations-index.result ∷ [])
    × (length c.loop-index.moved.items < length c.args.annotations.now)
more g c =
    AreKept-more is_moved _ _ _ _ c.loop-index.index MOVED _ c.loop-index.invariant.moved
    (omega arith) c.loop-index-test.true (ne_eqb _ MOVED c.if-following.false) refl
    c.index-annotations-index.is

pub loop-index-smaller : goal.loop-index-smaller
loop-index-smaller g c =
    let more_items = ap length c.push_reserved.ensures.items
    ∙ length-append c.loop-index.moved.items _ in
    omega (arith, (more g c).1, more_items)

pub loop-index-preserved : goal.loop-index-preserved
loop-index-preserved g c = grind (arith, common_steps, more)

pub returns-clause-permutation : goal.returns-clause-permutation
returns-clause-permutation g c = grind (arith, common_steps, AreKept-all)
