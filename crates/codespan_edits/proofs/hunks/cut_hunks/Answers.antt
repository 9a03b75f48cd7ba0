use Rattle.codespan_core.proofs.Std.{◌≡◌, ◌∙◌, ◌∷◌, ◌++◌, ◌+◌, [], ap, sym, subst, refl, map, drop}
use Rattle.codespan_core.proofs.Std.{List, ℕ, true≢false, drop-map, drop_more, drop_all, length-map}
use Rattle.codespan_core.proofs.Std.{IfOk-weaker, length, ◌<◌, arith}
use Rattle.codespan_core.proofs.Std.{Bool, get_or}
use Rattle.codespan_edits.specs.Diffs.{Row, rows_with}
use Rattle.codespan_edits.specs.DrawnRows.{is_drawn, hunks_of, runs_from}
use Rattle.codespan_edits.specs.Numbers.{numbered}
use Rattle.codespan_edits.specs.RowViews.{context_view, numbered_row, numbered_view, hunks_view}
use Rattle.codespan_edits.specs.Private.Blocks.{rows_of, FitLines, block_view}
use Rattle.codespan_edits.specs.Private.Hunks.{Cut}
use Rattle.codespan_edits.specs.declared.blocks.Block.{Block}
use Rattle.codespan_edits.specs.declared.hunks.Hunk.{Hunk}
use Rattle.codespan_edits.specs.declared.rows.RowSign.TheVariants.{Kept}
use Rattle.codespan_edits.proofs.LineBlocks.{shown, fit-lower}
use Rattle.codespan_edits.proofs.hunks.cut_hunks.Goals as goal

-- the block at an index and those that follow
at-block : (bs : List Block) (k : ℕ) (b : Block) → k < length bs → b ≡ get_or bs k b
    → drop k (map block_view bs) ≡ block_view b ∷ drop (k + 1) (map block_view bs)
at-block bs k b inside is =
    drop-map block_view k bs
    ∙ (ap (map block_view) (drop_more bs k b inside)
    ∙ (ap (λ x. block_view x ∷ map block_view (drop (k + 1) bs)) (sym is)
    ∙ ap (λ xs. block_view b ∷ xs) (sym (drop-map block_view (k + 1) bs))))

-- no row is there yet
pub loop-block-init : goal.loop-block-init
loop-block-init c =
    let full = rows_of (shown c.args.lines.now) 0 (map block_view c.args.blocks.now) in
    let picks : ℕ → Bool = is_drawn (context_view c.args.context) (numbered full) in
    record {
      fit = c.requires.fit;
      cut = record {
        open_rows = record {
          done = [];
          parts = refl;
          hunks =
              ap (λ hs. map (λ (h : Hunk). numbered_view h.rows) hs
              ++ runs_from picks 0 (map numbered_row c.new-2.result.items) (numbered full))
              c.new.ensures.items
              ∙ ap (λ rs. runs_from picks 0 (map numbered_row rs) (numbered full))
              c.new-2.ensures.items;
        };
        start = λ _. refl;
        last = λ h. absurd (true≢false (sym h));
      };
    }

pub push_block-requires-clause-from : goal.push_block-requires-clause-from
push_block-requires-clause-from c =
    (subst (FitLines (shown c.args.lines.now) c.loop-block.cutter.line)
    (at-block c.args.blocks.now c.loop-block.block-index c.block-item.result
    c.loop-block-test.true c.block-item.is) c.loop-block.invariant.fit).0

pub push_block-requires-clause-ordered : goal.push_block-requires-clause-ordered
push_block-requires-clause-ordered c =
    (subst (FitLines (shown c.args.lines.now) c.loop-block.cutter.line)
    (at-block c.args.blocks.now c.loop-block.block-index c.block-item.result
    c.loop-block-test.true c.block-item.is) c.loop-block.invariant.fit).1

pub push_block-requires-clause-within : goal.push_block-requires-clause-within
push_block-requires-clause-within c =
    let size : length (shown c.args.lines.now) ≡ length c.args.lines.now = rw length-map refl in
    omega (
      arith,
      size,
      (subst (FitLines (shown c.args.lines.now) c.loop-block.cutter.line)
          (at-block c.args.blocks.now c.loop-block.block-index c.block-item.result
          c.loop-block-test.true c.block-item.is) c.loop-block.invariant.fit).2,
    )

-- one more block was taken
pub loop-block-preserved : goal.loop-block-preserved
loop-block-preserved c =
    let ls = shown c.args.lines.now in
    let blocks = map block_view c.args.blocks.now in
    let bs = drop (c.loop-block.block-index + 1) blocks in
    let next = at-block c.args.blocks.now c.loop-block.block-index c.block-item.result
    c.loop-block-test.true c.block-item.is in
    let fit = subst (FitLines ls c.loop-block.cutter.line) next c.loop-block.invariant.fit in
    record {
      fit = fit-lower ls c.push_block.new.self.line c.block-item.result.end bs
          c.in_ok-push_block.ensures.line fit.3;
      cut = c.in_ok-push_block.ensures.cut (rows_of ls 0 blocks) bs fit.3
          (subst
          (λ left. Cut (context_view c.args.context) (rows_of ls 0 blocks) c.loop-block.cutter
          (rows_of ls c.loop-block.cutter.line left)) next c.loop-block.invariant.cut);
    }

-- no block is left
pub returns-clause-hunks : goal.returns-clause-hunks
returns-clause-hunks c =
    let ls = shown c.args.lines.now in
    let blocks = map block_view c.args.blocks.now in
    let context = context_view c.args.context in
    let size : length blocks ≡ length c.args.blocks.now = rw length-map refl in
    let none : drop c.loop-block.block-index blocks ≡ [] =
    drop_all c.loop-block.block-index blocks (rw size c.loop-block-test.false) in
    IfOk-weaker c.finish.result
    (λ hunks. (full : List Row) → Cut context full c.loop-block.cutter
    (rows_with Kept (drop c.loop-block.cutter.line ls))
    → hunks_view hunks ≡ hunks_of context (numbered full))
    (λ hunks. hunks_view hunks ≡ hunks_of context (numbered (rows_of ls 0 blocks)))
    (λ hunks is. is (rows_of ls 0 blocks)
    (subst (λ left. Cut context (rows_of ls 0 blocks) c.loop-block.cutter
    (rows_of ls c.loop-block.cutter.line left)) none c.loop-block.invariant.cut))
    c.finish.ensures.hunks
