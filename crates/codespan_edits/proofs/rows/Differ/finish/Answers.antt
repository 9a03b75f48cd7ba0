use Rattle.codespan_core.proofs.Std.{string_bytes}
use Rattle.codespan_edits.specs.RowViews.{rows_view}
use Rattle.codespan_edits.proofs.DiffBlocks.{finished}
use Rattle.codespan_edits.proofs.rows.Differ.finish.Goals as goal

-- the rows of what is held are added
pub returns-clause-rows : goal.returns-clause-rows
returns-clause-rows c =
    finished (rows_view c.args.self.rows) (rows_view c.push_block.new.rows) c.deref.result.now
    c.deref-2.result.now (string_bytes c.args.self.before) (string_bytes c.args.self.after)
    c.deref.ensures c.deref-2.ensures c.in_ok-push_block.ensures.rows
