use Rattle.codespan_core.proofs.Std.{◌≡◌, ◌+◌, ap, arith, chars, drop}
use Rattle.std.proofs.lemmas.Str.{IsUtf8-past_char}
use Rattle.std.specs.Str.Iter.{chars_rest}
use Rattle.codespan_fitting.proofs.TextCells.{cells_from, cells-end, cells-plain, cells-step}
use Rattle.codespan_fitting.proofs.TextCells.{fits-all, fits-not}
use Rattle.codespan_fitting.proofs.TextSteps.{plain-boundary}
use Rattle.codespan_fitting.proofs.measure.text_fits.Goals as goal

pub range_from-requires : goal.range_from-requires
range_from-requires c some =
    let e : c.as_bytes.result.now ≡ c.args.text.now = c.as_bytes.ensures.value in
    plain-boundary c.args.text.now c.plain_len-column.result c.utf8.text some
    (λ k h. omega (arith, (rw e at (c.plain_len-column.ensures.printable k h)).1))
    (rw e at c.plain_len-column.ensures.within)

pub loop-c-init : goal.loop-c-init
loop-c-init c =
    let n = c.plain_len-column.result in
    let e : c.as_bytes.result.now ≡ c.args.text.now = c.as_bytes.ensures.value in
    let rest : chars_rest c.into_iter-c-iterator.result ≡ drop n c.args.text.now = cc in
    let plain = cells-plain c.args.tab_width 0 c.args.text.now n c.utf8.text
    (rw e at c.plain_len-column.ensures.within) (rw e at c.plain_len-column.ensures.printable) in
    let from : 0 + n ≡ n = omega arith in
    rw rest
    record {
      utf8 = rw c.range_from.ensures.value at c.range_from.utf8;
      within = c.plain_len-column.ensures.most;
      cells =
          omega (
            arith,
            plain,
            ap (λ at. cells_from c.args.tab_width at (chars (drop n c.args.text.now))) from,
          );
    }

pub returns-then-cells-left : goal.returns-then-cells-left
returns-then-cells-left c =
    let i = c.loop-c.invariant in
    let more = cells-step _ _ _ _ _ _ i.utf8 c.in-Some.ensures.steps.0
    c.cells_at-cells.ensures.value in
    fits-not c.args.tab_width c.args.left c.args.text.now
    (omega (arith, more, i.cells, i.within, c.if-cells-left.true))

pub loop-c-preserved : goal.loop-c-preserved
loop-c-preserved c =
    let i = c.loop-c.invariant in
    let step = c.in-Some.ensures.steps.0 in
    let more = cells-step _ _ _ _ _ _ i.utf8 step c.cells_at-cells.ensures.value in
    record {
      utf8 = IsUtf8-past_char _ _ _ i.utf8 step;
      within = omega (arith, i.within, c.if-cells-left.false);
      cells = omega (arith, more, i.cells);
    }

pub returns : goal.returns
returns c =
    let i = c.loop-c.invariant in
    let none = cells-end c.args.tab_width c.loop-c.column _ c.in-None.ensures.steps.0.0 in
    fits-all c.args.tab_width c.args.left c.args.text.now
    (omega (arith, i.cells, i.within, none))
