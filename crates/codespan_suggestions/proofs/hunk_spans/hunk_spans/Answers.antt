use Rattle.codespan_core.proofs.Std.{◌∙◌, ap}
use Rattle.codespan_edits.specs.Numbers.{NumberedRow}
use Rattle.codespan_suggestions.specs.Private.Spans.{span_of}
use Rattle.codespan_suggestions.proofs.HunkNumbers.{numbers-more, few-more}
use Rattle.codespan_suggestions.proofs.hunk_spans.hunk_spans.Goals as goal

-- the numbers of one more row are added
pub loop-row-preserved : goal.loop-row-preserved
loop-row-preserved c =
    let row = c.row-item.result in
    let i = c.loop-row.row-index in
    let was = c.loop-row.invariant in
    record {
      old =
          c.add.ensures _ was.old
          ∙ ap span_of (numbers-more (λ (r : NumberedRow). r.old_number) c.args.rows.now i row
          c.loop-row-test.true c.row-item.is);
      new =
          c.add-in-loop-row.ensures _ was.new
          ∙ ap span_of (numbers-more (λ (r : NumberedRow). r.new_number) c.args.rows.now i row
          c.loop-row-test.true c.row-item.is);
      few_old = few-more _ row.old_number i _ _ was.old was.few_old (c.add.ensures _ was.old);
      few_new =
          few-more _ row.new_number i _ _ was.new was.few_new (c.add-in-loop-row.ensures _ was.new);
    }
