use Rattle.codespan_core.proofs.Std.{◌+◌, ◌≤◌, length, ap, arith, sym, ◌∙◌}
use Rattle.codespan_core.proofs.Std.{false≢true}
use Rattle.codespan_core.specs.{is_char_boundary}
use Rattle.codespan_core.proofs.ColumnLemmas.{count_block_step, count_range_step}
use Rattle.codespan_core.proofs.ColumnLemmas.{is_char_boundary_yes, is_char_boundary_no}
use Rattle.codespan_core.proofs.files.lines.column_index.Goals.{then-is_char_boundary}
use Rattle.codespan_core.proofs.files.lines.column_index.Goals.{else-is_char_boundary}
use Rattle.codespan_core.proofs.files.lines.column_index.Goals as goal

-- the boundaries of the next 16 indices are counted
pub loop-at-preserved : goal.loop-at-preserved
loop-at-preserved c =
    let text = c.args.source.now in
    let i = c.loop-at.at in
    let before = c.loop-at.invariant in
    let long = ap length c.as_bytes-bytes.ensures.value in
    let within : i + 1 + 16 ≤ length text = omega (arith, long) in
    let step = count_block_step text c.args.line_range.start i before.low within in
    let block = rw c.as_bytes-bytes.ensures.value at c.boundaries_in_block-count.ensures.value in
    record {
      low =
          omega arith;
      counted =
          omega (arith, before.counted, step, block);
      few =
          omega arith;
      high =
          λ h. omega arith;
      empty =
          λ h. absurd (omega arith);
    }

-- the next boundary is counted, and no other index
pub loop-i-preserved : goal.loop-i-preserved
loop-i-preserved c =
    let step =
    count_range_step (is_char_boundary c.args.source.now) c.args.line_range.start c.loop-i.i
    (omega arith) in
    let test = c.is_char_boundary.ensures.test in
    record {
      counted = elim c.if-is_char_boundary.branch [
        | then-is_char_boundary w ↦ omega (
          arith,
          w.count-is,
          rw (is_char_boundary_yes _ _ (test.0 w.if-is_char_boundary.true)) at step,
        )
        | else-is_char_boundary w ↦ omega (
          arith,
          w.count-is,
          rw
              (is_char_boundary_no _ _
              (λ b. false≢true (sym w.if-is_char_boundary.false ∙ test.1 b)))
              at step,
        )
      ];
      low =
          omega arith;
      high =
          λ h. omega arith;
      few =
          elim c.if-is_char_boundary.branch
          [ then-is_char_boundary w ↦ omega arith | else-is_char_boundary w ↦ omega arith ];
      empty = λ h. omega arith;
    }
