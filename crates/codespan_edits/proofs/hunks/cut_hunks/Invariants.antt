use Rattle.codespan_core.proofs.Std.{drop, map}
use Rattle.codespan_edits.specs.RowViews.{context_view}
use Rattle.codespan_edits.specs.Private.Blocks.{rows_of, FitLines, block_view}
use Rattle.codespan_edits.specs.Private.Hunks.{Cut}
use Rattle.codespan_edits.proofs.LineBlocks.{shown}
use Rattle.codespan_edits.proofs.hunks.cut_hunks.Given as goal

-- the blocks that are left fit the lines, and with their rows the hunks are all
abbrev pub invariant-loop-block : goal.invariant-loop-block
invariant-loop-block l =
    let ls = shown l.lines in
    let blocks = map block_view l.blocks in
    let left = drop l.block-index blocks in
    record {
      fit : FitLines ls l.cutter.line left;
      cut : Cut (context_view l.context) (rows_of ls 0 blocks) l.cutter
          (rows_of ls l.cutter.line left);
    }
