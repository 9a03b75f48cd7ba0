use Rattle.codespan_core.proofs.Std.{◌≡◌, ◌≤◌, drop, length, map}
use Rattle.std.specs.Slice.Iter.{iter_rest}
use Rattle.codespan_output.specs.OutputStreams.{labels_of}
use Rattle.codespan_output.specs.Private.LineViews.{context_view}
use Rattle.codespan_renderer.specs.Private.RowWriters.{row_writer_sink}
use Rattle.codespan_views.specs.Private.{annotation_view, known_numbers_of_labels, ids_view}
use Rattle.codespan_views.specs.{diagnostic_of, view_config_of}
use Rattle.codespan_views.proofs.Files.Slices.{from_file}
use Rattle.codespan_views.proofs.Outputs.SnippetsRendered.{SnippetsLeft}
use Rattle.codespan_views.proofs.rich.RichDiagnostic.render_snippets.Given as goal

-- the files before this one have been rendered, and the annotations and the numbers that are left
-- are those of it and of later ones
abbrev pub invariant-loop-index : goal.invariant-loop-index
invariant-loop-index g l = record {
  inside : l.start ≤ length l.collected.annotations.items;
  left : drop l.start (map annotation_view l.collected.annotations.items)
      ≡ from_file l.index (map annotation_view l.collected.annotations.items);
  numbers : iter_rest l.buffers.numbers
      ≡ known_numbers_of_labels (view_config_of l.self) (g.F.Files.database l.files)
      (labels_of (diagnostic_of l.self)) (drop l.index (ids_view l.collected.files.items));
  rendered : SnippetsLeft (g.F.Files.database l.files) (view_config_of l.self)
      (diagnostic_of l.self) l.collected l.max_width (context_view l.context) l.index
      (row_writer_sink g.W.WriteStyle.sink l.initial.rows)
      (row_writer_sink g.W.WriteStyle.sink l.rows);
}
