use Rattle.codespan_core.proofs.Std.{◌∙◌, ap, sym, refl, flat_map}
use Rattle.codespan_edits.specs.Diffs.{is_whole, block_rows, blocks_from, no_change}
use Rattle.codespan_edits.proofs.BlockLemmas.{piece-ends, block-ended}
use Rattle.codespan_edits.proofs.blocks.Collector.push.Goals as goal

-- the piece ends a block
pub returns-in_ok-end_block-clause-holds : goal.returns-in_ok-end_block-clause-holds
returns-in_ok-end_block-clause-holds c = λ ls all rest ps h.
    block-ended ls all c.end_block.new.self rest ps c.in_ok-end_block.ensures.before
    c.in_ok-end_block.ensures.after
    (c.in_ok-end_block.ensures.holds ls all (flat_map block_rows (blocks_from no_change ps)) rest
    (piece-ends ls all c.args.self.now (record {
      blocks = c.args.self.now.blocks;
      line = c.args.self.now.line;
      before = c.push_str.new.self;
      after = c.push_str-2.new.self;
    }) c.args.old.now c.args.new.now rest ps refl refl c.in_ok-push_str.ensures.bytes
    c.in_ok-push_str-2.ensures.bytes
    (ap is_whole (sym c.deref.ensures) ∙ (sym c.is_whole_text.ensures ∙ c.if-is_whole_text.true))
    (ap is_whole (sym c.deref-then-is_whole_text.ensures)
    ∙ (sym c.is_whole_text-then-is_whole_text.ensures ∙ c.if-is_whole_text-2.true))
    h))
