use Rattle.codespan_renderer.specs.Renderers.{SameRenderer, config_of, writer_of}
use Rattle.codespan_views.proofs.Outputs.HeaderRuns.{HeadersWritten, primary_before}
use Rattle.codespan_views.proofs.short.render_headers.Given as goal

-- the headers of the labels before this one have been written
abbrev pub invariant-loop-label : goal.invariant-loop-label
invariant-loop-label g l = record {
  same : SameRenderer l.initial.renderer l.renderer;
  written : HeadersWritten (config_of l.initial.renderer) (g.F.Files.database l.files)
      l.diagnostic (primary_before l.diagnostic l.label-index) l.has_primary
      (g.W.WriteStyle.sink (writer_of l.initial.renderer))
      (g.W.WriteStyle.sink (writer_of l.renderer));
}
