use Rattle.codespan_core.proofs.Std.{arith, chars}
use Rattle.std.proofs.lemmas.Str.{IsUtf8-past_char}
use Rattle.codespan_fitting.proofs.FewUnits.{begun-end}
use Rattle.codespan_fitting.proofs.UnitLemmas.{units-cells}
use Rattle.codespan_fitting.proofs.UnitSteps.{cells-past}
use Rattle.codespan_fitting.proofs.units.cells_left.Goals as goal

pub returns-then-cells-left : goal.returns-then-cells-left
returns-then-cells-left c =
    let i = c.loop-c.invariant in
    let more = cells-past _ _ _ _ _ i.utf8 c.in-Some.ensures.steps.0
    c.cells_at_most-cells.ensures.value in
    omega (arith, more, i.cells, units-cells c.args.tab_width (chars c.args.text.now))

pub loop-c-preserved : goal.loop-c-preserved
loop-c-preserved c =
    let i = c.loop-c.invariant in
    let step = c.in-Some.ensures.steps.0 in
    let more = cells-past _ _ _ _ _ i.utf8 step c.cells_at_most-cells.ensures.value in
    record {
      utf8 = IsUtf8-past_char _ _ _ i.utf8 step;
      cells = omega (arith, more, i.cells, c.if-cells-left.false);
    }

pub returns : goal.returns
returns c =
    let none = begun-end c.args.tab_width _ c.in-None.ensures.steps.0.0 in
    omega (
      arith,
      none.1,
      c.loop-c.invariant.cells,
      units-cells c.args.tab_width (chars c.args.text.now),
    )
