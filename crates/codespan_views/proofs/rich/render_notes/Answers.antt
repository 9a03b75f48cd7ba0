use Rattle.codespan_core.proofs.Std.{◌+◌, Result, take, sym, string_bytes, arith, common_steps}
use Rattle.std.specs.Str.Lines.{lines}
use Rattle.codespan_output.specs.Types.{Error, Config}
use Rattle.codespan_output.specs.OutputStreams.{context_of}
use Rattle.codespan_output.specs.RenderedRows.{note_stream, rendered_note}
use Rattle.codespan_renderer.specs.declared.term.renderer.Renderer.{Renderer}
use Rattle.codespan_renderer.specs.Renderers.{Renders, config_of}
use Rattle.codespan_views.proofs.Outputs.NoteRows.{notes-cut, notes-next, stream_of_notes}
use Rattle.codespan_views.proofs.Annotations.IndexedElements.{element-equal}
use Rattle.codespan_views.proofs.Outputs.RendererRuns.{exit_is, renders_cut, renders_nothing}
use Rattle.codespan_views.proofs.Outputs.RendererRuns.{renders_then}
use Rattle.codespan_views.proofs.rich.render_notes.Given.{Over}
use Rattle.codespan_views.proofs.rich.render_notes.Goals.{After-render_snippet_note}
use Rattle.codespan_views.proofs.rich.render_notes.Goals as goal

pub loop-note-init : goal.loop-note-init
loop-note-init g c = renders_nothing

-- the notes up to this one, and it too
one_more : (g : Over) (c : After-render_snippet_note g) {r : Result (Unit {0}) Error}
    {new : Renderer g.row.W.Denot}
    → Renders g.W.WriteStyle.sink
    (rendered_note (config_of c.loop-note.renderer) c.args.padding c.as_str.result.now)
    c.loop-note.renderer r new
    → Renders g.W.WriteStyle.sink (stream_of_notes string_bytes
    (context_of (config_of c.args.renderer.now) c.args.diagnostic.now.severity c.args.padding)
    (take (c.loop-note.note-index + 1) c.args.diagnostic.now.notes.items)) c.args.renderer.now r
    new
one_more g c part =
    rw (notes-next string_bytes (context_of (config_of c.args.renderer.now)
    c.args.diagnostic.now.severity c.args.padding)
    (element-equal c.deref-note-items.ensures.value c.loop-note-test.true c.note-item.is))
    (renders_then (λ (k : Config). note_stream k.chars c.args.padding
    (lines (string_bytes c.note-item.result))) c.loop-note.invariant
    (rw (sym c.as_str.ensures.value) part))

pub returns-in_err-render_snippet_note : goal.returns-in_err-render_snippet_note
returns-in_err-render_snippet_note g c =
    let d = c.args.diagnostic.now in
    let context = context_of (config_of c.args.renderer.now) d.severity c.args.padding in
    rw (
      exit_is _ c.from_residual.ensures.1,
      notes-cut string_bytes context d.notes.items (c.loop-note.note-index + 1),
    )
    (renders_cut _
    (one_more g (goal.at.returns-in_err-render_snippet_note g c).After-render_snippet_note
    c.in_err-render_snippet_note.ensures))

pub loop-note-preserved : goal.loop-note-preserved
loop-note-preserved g c = grind (arith, common_steps, one_more)
