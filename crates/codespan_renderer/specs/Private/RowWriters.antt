-- The writer that rows are written through, as its contracts see it.
use Rattle.std.specs.Prelude.{◌≡◌, Result, Ok, IsErr, MatchResult}
use Rattle.std.specs.Borrow.{GName}
use Rattle.codespan_core.specs.WriterLaw.{Sink}
use Rattle.codespan_renderer.specs.declared.term.renderer.row_writer.RowWriter.{RowWriter}
use Rattle.codespan_renderer.specs.Renderers.{sink_through}

-- the writer that it writes to
abbrev pub inner_writer : {W : Type 0} → RowWriter W → W
inner_writer p = p.inner.now

-- the reference that it writes through
abbrev pub inner_reference : {W : Type 0} → RowWriter W → GName
inner_reference p = p.inner.ghost_name

-- the law sees it as the inner writer, behind its reference
abbrev pub row_writer_sink : {W : Type 0} → (W → Sink) → RowWriter W → Sink
row_writer_sink sink p = sink_through (inner_reference p) (sink (inner_writer p))

-- both are `Ok` with the same value, or both are errors
abbrev pub SameOutcome : {T E F : Type 0} → Result T E → Result T F → Type 0
SameOutcome a b = MatchResult a (λ x. b ≡ Ok x) (λ _. IsErr b)
