use Rattle.codespan_core.proofs.Std.{string_bytes}
use Rattle.codespan_edits.specs.RowViews.{rows_view}
use Rattle.codespan_edits.proofs.DiffBlocks.{pushed-block, held-first, held-second}
use Rattle.codespan_edits.proofs.rows.Differ.push.Goals.{else-is_whole_text-via-then-is_whole_text+else-is_whole_text-2}
use Rattle.codespan_edits.proofs.rows.Differ.push.Goals.{else-is_whole_text-via-else-is_whole_text}
use Rattle.codespan_edits.proofs.rows.Differ.push.Goals as goal

-- the piece ends a block
pub returns-in_ok-push_block-clause-rows : goal.returns-in_ok-push_block-clause-rows
returns-in_ok-push_block-clause-rows c =
    λ ps. pushed-block (string_bytes c.args.self.now.before) (string_bytes c.args.self.now.after)
    c.args.old.now c.args.new.now (string_bytes c.push_str.new.self)
    (string_bytes c.push_str-2.new.self) ps c.in_ok-push_str.ensures.bytes
    c.in_ok-push_str-2.ensures.bytes (rows_view c.args.self.now.rows)
    (rows_view c.push_block.new.rows) c.deref.result.now c.deref-then-is_whole_text.result.now
    c.deref-then-is_whole_text-2.result.now c.deref-then-is_whole_text-2-2.result.now
    (string_bytes c.clear.new.self) (string_bytes c.clear-then-is_whole_text-2.new.self)
    c.is_whole_text.result c.is_whole_text-then-is_whole_text.result c.deref.ensures
    c.is_whole_text.ensures c.if-is_whole_text.true c.deref-then-is_whole_text.ensures
    c.is_whole_text-then-is_whole_text.ensures c.if-is_whole_text-2.true
    c.deref-then-is_whole_text-2.ensures c.deref-then-is_whole_text-2-2.ensures
    c.in_ok-push_block.ensures.rows c.clear.ensures.bytes
    c.clear-then-is_whole_text-2.ensures.bytes

-- the piece is held
pub returns-else-is_whole_text-clause-rows : goal.returns-else-is_whole_text-clause-rows
returns-else-is_whole_text-clause-rows c =
    λ ps. elim c.else-is_whole_text.branch [
      | else-is_whole_text-via-then-is_whole_text+else-is_whole_text-2 w ↦
          held-second (string_bytes c.args.self.now.before) (string_bytes c.args.self.now.after)
          c.args.old.now c.args.new.now (string_bytes c.push_str.new.self)
          (string_bytes c.push_str-2.new.self) ps c.in_ok-push_str.ensures.bytes
          c.in_ok-push_str-2.ensures.bytes (rows_view c.args.self.now.rows)
          w.deref-then-is_whole_text.result.now w.is_whole_text-then-is_whole_text.result
          w.deref-then-is_whole_text.ensures w.is_whole_text-then-is_whole_text.ensures
          w.if-is_whole_text-2.false
      | else-is_whole_text-via-else-is_whole_text w ↦
          held-first (string_bytes c.args.self.now.before) (string_bytes c.args.self.now.after)
          c.args.old.now c.args.new.now (string_bytes c.push_str.new.self)
          (string_bytes c.push_str-2.new.self) ps c.in_ok-push_str.ensures.bytes
          c.in_ok-push_str-2.ensures.bytes (rows_view c.args.self.now.rows) c.deref.result.now
          c.is_whole_text.result c.deref.ensures c.is_whole_text.ensures w.if-is_whole_text.false
    ]
