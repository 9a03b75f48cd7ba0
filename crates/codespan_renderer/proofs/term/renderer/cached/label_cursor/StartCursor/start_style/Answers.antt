use Rattle.codespan_core.proofs.Std.{◌+◌, sym, ◌∙◌, arith, common_steps}
use Rattle.codespan_renderer.proofs.LabelCursorSteps.{starts-rest, starts-first, starts-past}
use Rattle.codespan_renderer.proofs.StartsPassed.{start-here, start-before, none-start}
use Rattle.codespan_renderer.proofs.StartsPassed.{prefix-start}
use Rattle.codespan_renderer.proofs.term.renderer.cached.label_cursor.StartCursor.start_style.Goals.{then-not-is_empty}
use Rattle.codespan_renderer.proofs.term.renderer.cached.label_cursor.StartCursor.start_style.Goals.{else-not-is_empty}
use Rattle.codespan_renderer.proofs.term.renderer.cached.label_cursor.StartCursor.start_style.Goals as goal

pub loop-self-preserved : goal.loop-self-preserved
loop-self-preserved c =
    let i = c.loop-self.invariant in
    let prefix = prefix-start c.args.self.now.labels.now c.loop-self.self.next _
    (c.args.metrics.byte_index + c.args.metrics.bytes)
    (sym c.starts_before_end.ensures ∙ c.if-starts_before_end.true) in
    let low =
    starts-first c.args.metrics.byte_index _ c.args.self.now.labels.now c.loop-self.self.next _
    i.same c.loop-self-test.true i.ordered in
    record {
      here = elim c.if-not-is_empty.branch [
        | then-not-is_empty w ↦
            let some = w.if-not-is_empty.true in
            start-here c.args.metrics c.loop-self.best c.if-not-is_empty.best _
            c.args.self.now.labels.now c.loop-self.self.next _ _ i.same c.loop-self-test.true
            c.is_empty.ensures low prefix
            (rw some (w.best-is ∙ w.prefer_primary-best.ensures)) ∙ i.here
        | else-not-is_empty w ↦
            let none = w.if-not-is_empty.false in
            start-here c.args.metrics c.loop-self.best c.if-not-is_empty.best _
            c.args.self.now.labels.now c.loop-self.self.next _ _ i.same c.loop-self-test.true
            c.is_empty.ensures low prefix
            (rw none w.best-is) ∙ i.here
      ];
      later =
          λ d found past. i.later d found past
          ∙ start-before d found _ c.args.self.now.labels.now c.loop-self.self.next _ _ i.same
          c.loop-self-test.true prefix past;
      ordered =
          starts-rest c.args.metrics.byte_index _ c.args.self.now.labels.now c.loop-self.self.next _
          _ i.same c.loop-self-test.true prefix i.ordered;
      same = i.same;
    }

pub returns-else-starts_before_end-clause-style : goal.returns-else-starts_before_end-clause-style
returns-else-starts_before_end-clause-style c = grind (arith, common_steps, starts-past, none-start)
