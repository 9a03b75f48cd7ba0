use Rattle.codespan_core.proofs.Std.{arith, sym, ◌∙◌}
use Rattle.codespan_renderer.proofs.PointerStyles.{preferred-step}
use Rattle.codespan_renderer.proofs.term.renderer.label_styles.start_style.Goals.{then-not-is_empty+then-starts_in}
use Rattle.codespan_renderer.proofs.term.renderer.label_styles.start_style.Goals.{else-not-is_empty}
use Rattle.codespan_renderer.proofs.term.renderer.label_styles.start_style.Goals.{else-not-is_empty-via-then-not-is_empty+else-starts_in}
use Rattle.codespan_renderer.proofs.term.renderer.label_styles.start_style.Goals.{else-not-is_empty-via-else-not-is_empty}
use Rattle.codespan_renderer.proofs.term.renderer.label_styles.start_style.Goals as goal

pub loop-label-preserved : goal.loop-label-preserved
loop-label-preserved c =
    elim c.if-not-is_empty.branch [
      | then-not-is_empty+then-starts_in w ↦
          let some = w.if-not-is_empty.true in
          let inside = sym w.starts_in.ensures ∙ w.if-starts_in.true in
          preferred-step c.args.metrics c.loop-label.best c.if-not-is_empty.best c.args.labels.now
          c.loop-label.label-index _ _ (omega arith) c.is_empty.ensures
          (rw (some, inside) (w.best-is ∙ w.prefer_primary-best.ensures))
          ∙ c.loop-label.invariant
      | else-not-is_empty w ↦ elim w.else-not-is_empty.branch [
        | else-not-is_empty-via-then-not-is_empty+else-starts_in w' ↦
            let some = w'.if-not-is_empty.true in
            let outside = sym w'.starts_in.ensures ∙ w'.if-starts_in.false in
            preferred-step c.args.metrics c.loop-label.best c.if-not-is_empty.best c.args.labels.now
            c.loop-label.label-index _ _ (omega arith) c.is_empty.ensures
            (rw (some, outside) w.best-is)
            ∙ c.loop-label.invariant
        | else-not-is_empty-via-else-not-is_empty w' ↦
            let none = w'.if-not-is_empty.false in
            preferred-step c.args.metrics c.loop-label.best c.if-not-is_empty.best c.args.labels.now
            c.loop-label.label-index _ _ (omega arith) c.is_empty.ensures (rw none w.best-is)
            ∙ c.loop-label.invariant
      ]
    ]
