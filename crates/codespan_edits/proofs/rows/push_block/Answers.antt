use Rattle.codespan_core.proofs.Std.{◌-◌, length, take, drop, take_rest}
use Rattle.codespan_edits.specs.RowViews.{rows_view}
use Rattle.codespan_edits.proofs.DiffBlocks.{block-shown, rest-slice}
use Rattle.codespan_edits.proofs.rows.push_block.Goals as goal

-- the rows are those of the block
pub returns-clause-rows : goal.returns-clause-rows
returns-clause-rows c =
    let n = c.count_start-start.result in
    let xs = c.in_ok-old_lines.old_lines.items in
    let ys = c.in_ok-new_lines.new_lines.items in
    let olds = take (length c.deref-4.result.now - n) (drop n c.deref-4.result.now) in
    block-shown (record { old = c.args.old.now; new = c.args.new.now })
    c.in_ok-old_lines.old_lines.items c.in_ok-new_lines.new_lines.items c.deref.result.now
    c.deref-2.result.now c.deref-3.result.now
    olds
    (take (length c.deref-5.result.now - n) (drop n c.deref-5.result.now))
    (take (length olds - (length olds - c.count_end-end.result))
    (drop (length olds - c.count_end-end.result) olds)) n c.count_end-end.result
    (rows_view c.args.rows.now)
    (rows_view c.push_rows.new.rows) (rows_view c.push_rows-2.new.rows)
    (rows_view c.push_rows-3.new.rows) (rows_view c.push_rows-4.new.rows) c.deref.ensures.value
    c.deref-2.ensures.value c.deref-3.ensures.value
    (rest-slice n c.deref-4.result.now xs c.deref-4.ensures.value)
    (rest-slice n c.deref-5.result.now ys c.deref-5.ensures.value)
    (take_rest olds (length olds - c.count_end-end.result))
    c.in_ok-old_lines.ensures.lines c.in_ok-new_lines.ensures.lines
    c.count_start-start.ensures.count
    c.count_end-end.ensures.count c.in_ok-push_rows.ensures.rows c.in_ok-push_rows-2.ensures.rows
    c.in_ok-push_rows-3.ensures.rows c.in_ok-push_rows-4.ensures.rows
