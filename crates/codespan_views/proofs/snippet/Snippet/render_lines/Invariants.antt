use Rattle.codespan_core.proofs.Std.{◌≤◌, length, map, All, IfSome, IsTrue, slice_get}
use Rattle.std.specs.Slice.Iter.{iter_rest}
use Rattle.codespan_renderer.specs.Private.RowWriters.{row_writer_sink}
use Rattle.codespan_views.specs.Private.{shows_line, IsLineOf, annotation_view, lines_of, model_of}
use Rattle.codespan_views.proofs.Lines.Rendered.{LinesLeft}
use Rattle.codespan_views.proofs.Lines.SnippetLineViews.{lines_left}
use Rattle.codespan_views.proofs.snippet.Snippet.render_lines.Given as goal

-- some snippet lines have been rendered, and the remaining annotations make the rest
abbrev pub invariant-loop-first : goal.invariant-loop-first
invariant-loop-first g l = record {
  within : length l.rest ≤ length l.annotations;
  lines : All (λ e. IsLineOf (model_of g.F.Files.database l.self.file) e.line) l.rest;
  shown : IfSome (slice_get l.rest 0) (λ first. IsTrue (shows_line (annotation_view first)));
  left : LinesLeft g.F.Files.database l.self (iter_rest l.fn.buffers.numbers)
      (lines_of (map annotation_view l.annotations))
      (row_writer_sink g.W.WriteStyle.sink l.fn.rows) (iter_rest l.buffers.numbers)
      (lines_left l.hidden_annotations l.rest l.previous)
      (row_writer_sink g.W.WriteStyle.sink l.rows);
}

abbrev pub decreases-loop-first : goal.decreases-loop-first
decreases-loop-first g l = length l.rest
