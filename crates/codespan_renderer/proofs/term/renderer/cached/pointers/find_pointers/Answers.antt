use Rattle.codespan_core.proofs.Std.{◌∙◌, ◌++◌, ap, append-nil, sym, arith, IsUtf8-had}
use Rattle.codespan_core.proofs.Std.{common_steps}
use Rattle.codespan_output.specs.Arguments.{single_label_views}
use Rattle.codespan_output.proofs.Characters.Consecutive.{char_metrics-consecutive}
use Rattle.codespan_output.proofs.Messages.Hanging.{none_hangs}
use Rattle.codespan_output.proofs.Characters.ScanState.{scan_state-char_metrics, scan_state-more}
use Rattle.codespan_renderer.proofs.PiecesInOrder.{before-ordered, after-ordered}
use Rattle.codespan_renderer.proofs.PointerCursors.{no-pointers, passing-start, passing-at}
use Rattle.codespan_renderer.proofs.PointerCursors.{passing-more, found-style, found-some}
use Rattle.codespan_renderer.proofs.PointerCursors.{found-none, pointers-past-at}
use Rattle.codespan_renderer.proofs.term.renderer.cached.pointers.find_pointers.Goals as goal

pub returns-then-not-has_any_message-2-clause-found :
    goal.returns-then-not-has_any_message-2-clause-found
returns-then-not-has_any_message-2-clause-found c =
    grind (arith, common_steps, none_hangs, no-pointers)

pub loop-metrics-init : goal.loop-metrics-init
loop-metrics-init c =
    grind (
      arith,
      common_steps,
      passing-start,
      before-ordered,
      after-ordered,
      char_metrics-consecutive,
      scan_state-char_metrics,
      IsUtf8-had,
    )

pub returns-then-metrics-greatest_start-clause-found :
    goal.returns-then-metrics-greatest_start-clause-found
returns-then-metrics-greatest_start-clause-found c =
    let i = c.loop-metrics.invariant in
    let none = pointers-past-at c.args.messages.labels.now _ _ _ _
    c.max_label_start-greatest_start.result _ _
    c.in-Some.metrics c.in-Some.ensures.steps i.cursor c.if-metrics-greatest_start.true
    c.max_label_start-greatest_start.ensures in
    sym (append-nil c.loop-metrics.pointers.items)
    ∙ ap (λ ps. c.loop-metrics.pointers.items ++ ps) (sym none) ∙ i.found

pub loop-metrics-preserved-in-Continue-1 : goal.loop-metrics-preserved-in-Continue-1
loop-metrics-preserved-in-Continue-1 c =
    let i = c.loop-metrics.invariant in
    let step = c.in-Some.ensures.steps in
    let early = c.start_style-early.ensures in
    let late = c.start_style.ensures in
    let style =
    found-style c.args.messages.labels.now _ _ _ _ c.in-Some.metrics _ _
    c.args.messages.hanging_labels
    i.cursor.same_early i.cursor.same_late early.style late.style in
    record {
      cursor =
          passing-more _ _ _ _ _ _ _ _ (passing-at _ _ _ _ _ _ c.in-Some.metrics step i.cursor)
          early.passed late.passed early.labels late.labels;
      scan_state =
          scan_state-more _ _ _ c.in-Some.metrics _ (omega arith) (omega arith)
          (rw step at i.scan_state);
      found = rw (c.in_ok-push.ensures.items, c.pointer_under.ensures)
          (found-some (single_label_views c.args.messages.labels.now)
          c.loop-metrics.pointers.items _ _
          c.in-Some.metrics _ step (sym style ∙ c.in-Some-start_style.is) ∙ i.found);
    }

pub loop-metrics-preserved : goal.loop-metrics-preserved
loop-metrics-preserved c =
    let i = c.loop-metrics.invariant in
    let step = c.in-Some.ensures.steps in
    let early = c.start_style-early.ensures in
    let late = c.start_style.ensures in
    let style =
    found-style c.args.messages.labels.now _ _ _ _ c.in-Some.metrics _ _
    c.args.messages.hanging_labels
    i.cursor.same_early i.cursor.same_late early.style late.style in
    record {
      cursor =
          passing-more _ _ _ _ _ _ _ _ (passing-at _ _ _ _ _ _ c.in-Some.metrics step i.cursor)
          early.passed late.passed early.labels late.labels;
      scan_state =
          scan_state-more _ _ _ c.in-Some.metrics _ (omega arith) (omega arith)
          (rw step at i.scan_state);
      found =
          found-none (single_label_views c.args.messages.labels.now)
          c.loop-metrics.pointers.items _ _
          c.in-Some.metrics step (sym style ∙ c.in_default.is)
          ∙ i.found;
    }
