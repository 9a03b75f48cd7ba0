use Rattle.codespan_core.proofs.Std.{◌≡◌, ◌+◌, length}
use Rattle.codespan_output.specs.{char_metrics_to_end, single_label_views, carets}
use Rattle.codespan_output.specs.Private.{context_view}
use Rattle.codespan_core.proofs.Loops.{StillToWrite}
use Rattle.codespan_output.proofs.Carets.Runs.{carets_left}
use Rattle.codespan_output.proofs.Characters.ScanState.{ScanState}
use Rattle.codespan_output.proofs.rows.carets.write_carets.Given as goal

abbrev pub invariant-loop-metrics : goal.invariant-loop-metrics
invariant-loop-metrics g l = record {
  written_so_far : StillToWrite (g.W.PutStyle.sink l.fn.w)
      (carets (context_view l.rows.context) (single_label_views l.rows.line.labels.now)
      (char_metrics_to_end l.rows.context.tab_width l.rows.line.text.now))
      (carets_left (context_view l.rows.context) (single_label_views l.rows.line.labels.now)
      l.previous l.run
      (g.S.Cursor.CharCursor.remaining l.cursor))
      (g.W.PutStyle.sink l.w);
  scan_state : ScanState (length l.rows.line.text.now + 1) l.run
      (g.S.Cursor.CharCursor.remaining l.cursor);
  same : g.S.Cursor.CharCursor.labels l.cursor ≡ l.rows.line.labels.now;
}

abbrev pub decreases-loop-metrics : goal.decreases-loop-metrics
decreases-loop-metrics g l = length (g.S.Cursor.CharCursor.remaining l.cursor)
