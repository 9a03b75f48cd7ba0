use Rattle.codespan_core.proofs.Std.{arith, chars}
use Rattle.codespan_fitting.proofs.UnitLemmas.{within-bytes, within-cells}
use Rattle.codespan_fitting.proofs.FirstSteps.{within-end, within-more, within-stop}
use Rattle.codespan_fitting.proofs.TextSteps.{ahead-boundary, ahead-step}
use Rattle.codespan_fitting.proofs.walk.keep_first.Goals as goal

pub returns-then-cells-left-clause-bytes : goal.returns-then-cells-left-clause-bytes
returns-then-cells-left-clause-bytes c =
    let i = c.loop-c.invariant in
    let none = within-stop _ _ _ _ _ _ i.ahead.utf8 c.in-Some.ensures.steps.0
    c.cells_at_most-cells.ensures.value c.if-cells-left.true in
    omega (
      arith,
      none.0,
      i.bytes,
      within-bytes c.args.tab_width c.args.radius (chars c.args.text.now),
    )

pub returns-then-cells-left-clause-cells : goal.returns-then-cells-left-clause-cells
returns-then-cells-left-clause-cells c =
    let i = c.loop-c.invariant in
    let none = within-stop _ _ _ _ _ _ i.ahead.utf8 c.in-Some.ensures.steps.0
    c.cells_at_most-cells.ensures.value c.if-cells-left.true in
    omega (
      arith,
      none.1,
      i.cells,
      within-cells c.args.tab_width c.args.radius (chars c.args.text.now),
    )

pub returns-then-cells-left-clause-boundary : goal.returns-then-cells-left-clause-boundary
returns-then-cells-left-clause-boundary c = ahead-boundary _ _ _ c.loop-c.invariant.ahead

pub returns-clause-bytes : goal.returns-clause-bytes
returns-clause-bytes c =
    let i = c.loop-c.invariant in
    let none = within-end c.args.tab_width c.loop-c.left _ c.in-None.ensures.steps.0.0 in
    omega (
      arith,
      none.0,
      i.bytes,
      within-bytes c.args.tab_width c.args.radius (chars c.args.text.now),
    )

pub returns-clause-cells : goal.returns-clause-cells
returns-clause-cells c =
    let i = c.loop-c.invariant in
    let none = within-end c.args.tab_width c.loop-c.left _ c.in-None.ensures.steps.0.0 in
    omega (
      arith,
      none.1,
      i.cells,
      within-cells c.args.tab_width c.args.radius (chars c.args.text.now),
    )

pub loop-c-preserved : goal.loop-c-preserved
loop-c-preserved c =
    let i = c.loop-c.invariant in
    let step = c.in-Some.ensures.steps.0 in
    let more = within-more _ _ _ _ _ _ i.ahead.utf8 step
    c.cells_at_most-cells.ensures.value c.if-cells-left.false in
    record {
      ahead = rw c.len_utf8-end.ensures.value (ahead-step _ _ _ _ _ i.ahead step);
      left = omega (arith, i.left);
      bytes = omega (arith, more.0, i.bytes, c.len_utf8-end.ensures.value);
      cells = omega (arith, more.1, i.cells, i.left, c.if-cells-left.false);
    }
