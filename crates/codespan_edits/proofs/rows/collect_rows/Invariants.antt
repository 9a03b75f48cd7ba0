use Rattle.codespan_core.proofs.Std.{◌≡◌, ◌<◌, drop, flat_map, IsCharBoundary}
use Rattle.codespan_edits.specs.Edits.{text_edits}
use Rattle.codespan_edits.specs.Diffs.{pieces_from, block_rows, blocks_from, no_change}
use Rattle.codespan_edits.specs.Private.Places.{edits_at, FitFrom}
use Rattle.codespan_edits.specs.Private.Differs.{all_rows}
use Rattle.codespan_edits.proofs.rows.collect_rows.Given as goal

-- the edits left fit the text from this byte on, and with their pieces the rows are all
abbrev pub invariant-loop-place : goal.invariant-loop-place
invariant-loop-place g l =
    let all = edits_at (text_edits l.edits) l.places in
    let left = drop l.place-index all in
    record {
      boundary : 0 < l.byte → IsCharBoundary l.source l.byte;
      fit : FitFrom l.source l.byte left;
      rows : all_rows l.differ (pieces_from l.source l.byte left)
          ≡ flat_map block_rows (blocks_from no_change (pieces_from l.source 0 all));
    }
