use Rattle.codespan_core.proofs.Std.{[], refl, sym, ◌∙◌}
use Rattle.codespan_output.specs.Arguments.{single_label_views}
use Rattle.codespan_renderer.specs.Private.{no_more}
use Rattle.codespan_renderer.proofs.PointerCursors.{found-none, found-some, found-style}
use Rattle.codespan_renderer.proofs.PointerCursors.{scan-past-at}
use Rattle.codespan_renderer.proofs.term.renderer.scanned_line.PointerScanPointerCursor.next_pointer.Goals as goal

pub returns-then-metrics-self : goal.returns-then-metrics-self
returns-then-metrics-self c =
    let scan = c.loop-metrics.self in
    let none = scan-past-at (single_label_views scan.messages.labels.now) scan.greatest_start
    c.in-Some.metrics scan.char_metrics c.next_metrics.new.self c.in-Some.ensures.yields
    c.if-metrics-self.true scan.reach in
    (sym c.loop-metrics.invariant ∙ none.0, none.1)

-- a label hangs from the character
pub returns-in-Some-start_style : goal.returns-in-Some-start_style
returns-in-Some-start_style c =
    let messages = c.loop-metrics.self.messages in
    let is =
    found-style messages.labels.now messages.before.now messages.after.now _ _ c.in-Some.metrics _
    _ messages.hanging_labels refl refl c.start_style-early.ensures
    c.in-Some-start_style.ensures in
    rw c.pointer_under.ensures
    (sym c.loop-metrics.invariant
    ∙ sym (found-some (single_label_views messages.labels.now) [] _ _ c.in-Some.metrics
    c.in-Some-start_style.style (c.in-Some.ensures.yields.yields no_more) (sym is)))

-- no label hangs from the character
pub loop-metrics-preserved : goal.loop-metrics-preserved
loop-metrics-preserved c =
    let messages = c.loop-metrics.self.messages in
    let is =
    found-style messages.labels.now messages.before.now messages.after.now _ _ c.in-Some.metrics _
    _ messages.hanging_labels refl refl c.start_style-early.ensures
    c.in_default-start_style.ensures in
    found-none (single_label_views messages.labels.now) [] _ _ c.in-Some.metrics
    (c.in-Some.ensures.yields.yields no_more) (sym is)
    ∙ c.loop-metrics.invariant
