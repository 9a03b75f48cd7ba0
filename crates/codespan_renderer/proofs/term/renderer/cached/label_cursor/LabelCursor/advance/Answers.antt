use Rattle.codespan_core.proofs.Std.{true, sym, ◌∙◌, arith, refl, nat_tests}
use Rattle.codespan_core.specs.Labels.{is_primary}
use Rattle.codespan_renderer.proofs.LabelCursorSteps.{labels-step, reached-more, reached-here}
use Rattle.codespan_renderer.proofs.LabelCursorSteps.{starts-next, starts-past}
use Rattle.codespan_renderer.proofs.term.renderer.cached.label_cursor.LabelCursor.advance.Goals as goal

pub loop-self-preserved : goal.loop-self-preserved
loop-self-preserved c =
    let i = c.loop-self.invariant in
    let e = c.raise_ends.ensures in
    let step =
    labels-step _ c.args.self.now.labels.now c.loop-self.self.next _ c.loop-self.invariant.same
    (omega arith) in
    let prefix = sym c.starts_before_end.ensures ∙ c.if-starts_before_end.true in
    record {
      passed = record {
        primary =
            rw (e.labels, e.next, e.primary)
            (reached-more is_primary _ _ _ _ _ _ step (grind (arith, nat_tests, prefix))
            i.passed.primary);
        any =
            rw (e.labels, e.next, e.any)
            (reached-more (λ _. true) _ _ _ _ _ _ step (grind (arith, nat_tests, prefix))
            i.passed.any);
        ordered = rw (e.labels, e.next) (starts-next 0 _ _ _ step i.passed.ordered);
      };
      same = e.labels ∙ i.same;
    }

pub returns-else-starts_before_end-clause-primary
    : goal.returns-else-starts_before_end-clause-primary
returns-else-starts_before_end-clause-primary c =
    let i = c.loop-self.invariant in
    let late = sym c.starts_before_end.ensures ∙ c.if-starts_before_end.false in
    reached-here is_primary _ _ _ _ c.args.metrics refl c.requires.has_byte
    (starts-past 0 _ _ _ _ _ i.same (omega arith) late i.passed.ordered) i.passed.primary

pub returns-else-starts_before_end-clause-any : goal.returns-else-starts_before_end-clause-any
returns-else-starts_before_end-clause-any c =
    let i = c.loop-self.invariant in
    let late = sym c.starts_before_end.ensures ∙ c.if-starts_before_end.false in
    reached-here (λ _. true) _ _ _ _ c.args.metrics refl c.requires.has_byte
    (starts-past 0 _ _ _ _ _ i.same (omega arith) late i.passed.ordered) i.passed.any
