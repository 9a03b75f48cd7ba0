use Rattle.codespan_core.proofs.Std.{◌≡◌, ◌≤◌, length}
use Rattle.codespan_output.specs.Private.{context_view, line_view}
use Rattle.codespan_output.specs.{colored_text}
use Rattle.codespan_core.proofs.Loops.{StillToWrite}
use Rattle.codespan_output.proofs.Characters.TextRuns.{IsOver, piece, text_rest}
use Rattle.codespan_output.proofs.rows.source.write_text.Given as goal

abbrev pub invariant-loop-metrics : goal.invariant-loop-metrics
invariant-loop-metrics g l = record {
  written_so_far : StillToWrite (g.W.PutStyle.sink l.fn.w)
      (colored_text (context_view l.rows.context) (line_view l.rows.line))
      (text_rest (context_view l.rows.context) (line_view l.rows.line) l.previous
      (piece l.text l.start l.end)
      (g.S.Cursor.CharCursor.remaining l.cursor))
      (g.W.PutStyle.sink l.w);
  over : IsOver l.rows.context.tab_width l.rows.line.text.now l.end
      (g.S.Cursor.CharCursor.remaining l.cursor);
  same : g.S.Cursor.CharCursor.labels l.cursor ≡ l.rows.line.labels.now;
  ordered : l.start ≤ l.end;
  within : l.end ≤ length l.rows.line.text.now;
}

abbrev pub decreases-loop-metrics : goal.decreases-loop-metrics
decreases-loop-metrics g l = length (g.S.Cursor.CharCursor.remaining l.cursor)
