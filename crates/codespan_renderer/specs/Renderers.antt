-- A renderer, as its contracts see it: a writer behind a reference, and a configuration. What its
-- calls render is in `RenderedRows` of `codespan_output`.
use Rattle.std.specs.Prelude.{◌≡◌, ◌∷◌, Result, IfErr}
use Rattle.std.specs.Borrow.{GName}
use Rattle.codespan_output.specs.Types.{Error, Config}
use Rattle.codespan_core.specs.Errors.{IsIo}
use Rattle.codespan_core.specs.Streams.{Stream}
use Rattle.codespan_core.specs.WriterLaw.{Writes, Sink}
use Rattle.codespan_renderer.specs.declared.term.renderer.Renderer.{Renderer}

-- the writer that it renders to
abbrev pub writer_of : {W : Type 0} → Renderer W → W
writer_of r = r.writer.now

-- the reference that it renders through
abbrev pub reference_of : {W : Type 0} → Renderer W → GName
reference_of r = r.writer.ghost_name

-- the configuration that it renders by
abbrev pub config_of : {W : Type 0} → Renderer W → Config
config_of r = r.config.now

-- it renders through the same reference by the same configuration
pub record SameRenderer {W : Type 0} (old new : Renderer W) : Type 0 where
  pub reference : reference_of new ≡ reference_of old
  pub config : config_of new ≡ config_of old

-- a writer, behind one more reference
abbrev pub sink_through : GName → Sink → Sink
sink_through name s = record s { frame = record s.frame { borrows = name ∷ s.frame.borrows } }

-- the law sees a renderer as its writer, behind its reference
abbrev pub renderer_sink : {W : Type 0} → (W → Sink) → Renderer W → Sink
renderer_sink sink r = sink_through (reference_of r) (sink (writer_of r))

-- a call renders a stream: the writer receives the stream, or a prefix of it where the call fails;
-- the call fails with `Io` alone; the renderer keeps its writer and its configuration
pub record Renders {W : Type 0} (sink : W → Sink) (items : Stream)
    (old : Renderer W) (result : Result (Unit {0}) Error) (new : Renderer W) : Type 0 where
  pub same : SameRenderer old new
  pub writes : Writes (sink (writer_of old)) items result (sink (writer_of new))
  pub io : IfErr result IsIo
