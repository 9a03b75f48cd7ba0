use Rattle.codespan_core.proofs.Std.{string_bytes}
use Rattle.codespan_core.specs.Streams.{newline}
use Rattle.codespan_output.specs.Types.{Config}
use Rattle.codespan_views.proofs.Outputs.NoteRows.{notes-empty}
use Rattle.codespan_views.proofs.Outputs.RendererRuns.{exit_is, renders_cut, renders_then}
use Rattle.codespan_views.proofs.rich.render_closing.Goals as goal

pub returns-in_err-render_notes : goal.returns-in_err-render_notes
returns-in_err-render_notes g c =
    rw (exit_is _ c.from_residual.ensures.1, notes-empty string_bytes)
    (renders_cut newline c.in_err-render_notes.ensures)

pub returns : goal.returns
returns g c =
    rw (notes-empty string_bytes)
    (renders_then (λ (k : Config). newline) c.in_ok-render_notes.ensures c.render_empty.ensures)
