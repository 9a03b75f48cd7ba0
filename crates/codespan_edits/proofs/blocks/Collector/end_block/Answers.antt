use Rattle.codespan_core.proofs.Std.{◌∙◌, ◌≡◌, ap, arith, refl}
use Rattle.codespan_core.proofs.Std.{length, length-map, string_bytes, List, ℕ}
use Rattle.std.specs.Borrow.{Bor}
use Rattle.codespan_edits.specs.Diffs.{lines}
use Rattle.codespan_edits.proofs.LineBlocks.{shown}
use Rattle.codespan_edits.proofs.BlockLemmas.{ended}
use Rattle.codespan_edits.proofs.blocks.Collector.end_block.Goals as goal

lines-len : (ls : List (Bor (List ℕ))) → length ls ≡ length (shown ls)
lines-len ls = rw length-map refl

-- the block is added
pub returns-clause-holds : goal.returns-clause-holds
returns-clause-holds c = λ ls all rows rest h.
    ended ls all c.args.self.now (record {
      blocks = c.push.new.self;
      line = c.in_ok-end.end;
      before = c.clear.new.self;
      after = c.replace-new.new.dest;
    }) rest rows (record {
      first = c.args.self.now.line;
      end = c.in_ok-end.end;
      new = c.replace-new.result;
    }) c.len-count.result
    (omega (
      arith,
      c.len-count.ensures,
      c.in_ok-lines_of.field-0.ok.0,
      lines-len c.in_ok-lines_of.field-0.items,
      ap length (c.in_ok-lines_of.ensures.lines ∙ ap lines c.deref.ensures),
    ))
    refl c.in_ok-end.ensures.sum (ap string_bytes c.replace-new.ensures.value)
    c.in_ok-push.ensures.items c.in_ok-end.ensures.sum c.clear.ensures.bytes
    (ap string_bytes c.replace-new.ensures.after ∙ c.new.ensures.bytes) h
