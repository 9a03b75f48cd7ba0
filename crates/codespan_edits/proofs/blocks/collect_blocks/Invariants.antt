use Rattle.codespan_core.proofs.Std.{◌<◌, drop, flat_map, IsCharBoundary}
use Rattle.codespan_edits.specs.Edits.{text_edits}
use Rattle.codespan_edits.specs.Diffs.{lines, pieces_from, block_rows, blocks_from, no_change}
use Rattle.codespan_edits.specs.Private.Places.{edits_at, FitFrom}
use Rattle.codespan_edits.specs.Private.Blocks.{Holds}
use Rattle.codespan_edits.proofs.blocks.collect_blocks.Given as goal

-- the edits left fit the text from this byte on, and with their pieces the blocks are all
abbrev pub invariant-loop-place : goal.invariant-loop-place
invariant-loop-place g l =
    let all = edits_at (text_edits l.edits) l.places in
    let left = drop l.place-index all in
    record {
      boundary : 0 < l.byte → IsCharBoundary l.source l.byte;
      fit : FitFrom l.source l.byte left;
      holds : Holds (lines l.source)
          (flat_map block_rows (blocks_from no_change (pieces_from l.source 0 all))) l.collector
          (drop l.byte l.source) (pieces_from l.source l.byte left);
    }
