use Rattle.codespan_core.proofs.Std.{◌+◌, arith, ◌∙◌, refl}
use Rattle.std.proofs.Math.Seq.{map-set_same}
use Rattle.codespan_edits.specs.RowViews.{row_view}
use Rattle.codespan_edits.proofs.NumberLemmas.{numbers-more, count-le}
use Rattle.codespan_edits.proofs.numbers.number_rows.Goals as goal

-- one more row has its numbers
pub loop-row-preserved : goal.loop-row-preserved
loop-row-preserved c = record {
  old = count-le c.is_old.result c.loop-row.old _ _ c.loop-row.invariant.old
      c.take_number-row.ensures.next;
  new = count-le c.is_new.result c.loop-row.new _ _ c.loop-row.invariant.new
      c.take_number-row-in-loop-row.ensures.next;
  rows = map-set_same row_view c.loop-row.row-items c.loop-row.row-index _ c.row-item.result refl
      ∙ c.loop-row.invariant.rows;
  numbers =
      numbers-more c.loop-row.row-items c.loop-row.row-index c.row-item.result _ _ c.is_old.result
      c.is_new.result (c.loop-row.old + 1) (c.loop-row.new + 1) _ _ _ (omega arith)
      c.is_old.ensures c.is_new.ensures c.take_number-row.ensures.number
      c.take_number-row-in-loop-row.ensures.number c.take_number-row.ensures.next
      c.take_number-row-in-loop-row.ensures.next c.loop-row.invariant.numbers;
}
