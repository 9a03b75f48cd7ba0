use Rattle.codespan_core.proofs.Std.{Ok, take, string_bytes}
use Rattle.codespan_output.specs.OutputStreams.{context_of}
use Rattle.codespan_renderer.specs.Renderers.{Renders, config_of}
use Rattle.codespan_views.proofs.Outputs.NoteRows.{stream_of_notes}
use Rattle.codespan_views.proofs.rich.render_notes.Given as goal

-- the notes before this one have been rendered
abbrev pub invariant-loop-note : goal.invariant-loop-note
invariant-loop-note g l =
    Renders g.W.WriteStyle.sink (stream_of_notes string_bytes
    (context_of (config_of l.initial.renderer) l.diagnostic.severity l.padding)
    (take l.note-index l.diagnostic.notes.items)) l.initial.renderer (Ok tt) l.renderer
