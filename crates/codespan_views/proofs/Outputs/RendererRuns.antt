-- Calls that render by a renderer, one after another: for the clauses of the views' `render`, of
-- `render_snippets`, `render_notes`, `render_closing` and `render_headers`.
use Rattle.codespan_core.proofs.Std.{◌≡◌, List, [], ◌++◌, Option, Result, Ok, Err, refl}
use Rattle.codespan_core.proofs.Std.{ap, arith, common_steps, ℕ}
use Rattle.std.specs.Borrow.{GName}
use Rattle.std.specs.Result.{IsErrAnd}
use Rattle.codespan_core.specs.Streams.{Stream}
use Rattle.codespan_core.specs.WriterLaw.{Sink, is_known, with_written}
use Rattle.codespan_output.specs.Types.{Error, Config}
use Rattle.codespan_output.specs.Rows.{Row, RowContext}
use Rattle.codespan_output.specs.OutputStreams.{fitted_stream}
use Rattle.codespan_renderer.specs.declared.term.renderer.Renderer.{Renderer}
use Rattle.codespan_renderer.specs.Private.RowWriters.{inner_reference, inner_writer}
use Rattle.codespan_renderer.specs.Private.RowWriters.{row_writer_sink}
use Rattle.codespan_renderer.specs.Renderers.{Renders, SameRenderer, config_of, sink_through}
use Rattle.codespan_renderer.specs.declared.term.renderer.row_writer.RowWriter.{RowWriter}
use Rattle.codespan_views.specs.Private.{WritesWithLookups}
use Rattle.codespan_core.proofs.Chains.{failed-before, writes-last}
use Rattle.codespan_core.proofs.Writes.{with_written-nil}
use Rattle.codespan_renderer.proofs.RowWriters.{same_frame, same_head, same_reference}
use Rattle.codespan_renderer.proofs.RowWriters.{writes_before}

-- the error that a `?` returns is that of the call before it
pub exit_is : {T E : Type 0} {e : E} (r : Result T E) → IsErrAnd r (λ y. y ≡ e) → r ≡ Err e
exit_is (Ok x) h = absurd h
exit_is (Err y) h = ap Err h

module _ {W : Type 0} where
  -- a renderer is the same as itself
  pub same_renderer : {old : Renderer W} → SameRenderer old old
  same_renderer = record { reference = refl; config = refl }

  -- it is the same renderer after a second call too
  pub same_twice : {old mid new : Renderer W} → SameRenderer old mid → SameRenderer mid new
      → SameRenderer old new
  same_twice first second = grind (arith, common_steps)

module _ {W : Type 0} {sink : W → Sink} {old : Renderer W} where
  -- nothing is rendered
  pub renders_nothing : Renders sink [] old (Ok tt) old
  renders_nothing = grind (arith, common_steps, same_renderer, with_written-nil)

  -- a call failed, with more to render after its stream
  pub renders_cut : (b : Stream) {a : Stream} {e : Error} {new : Renderer W}
      → Renders sink a old (Err e) new → Renders sink (a ++ b) old (Err e) new
  renders_cut b part = grind (arith, common_steps, failed-before)

  -- a call succeeded, and then another one renders what the configuration decides
  pub renders_then : (f : Config → Stream) {a : Stream} {r : Result (Unit {0}) Error}
      {mid new : Renderer W}
      → Renders sink a old (Ok tt) mid → Renders sink (f (config_of mid)) mid r new
      → Renders sink (a ++ f (config_of old)) old r new
  renders_then f {a} {r} {mid} {new} first second =
      grind (arith, common_steps, same_twice, writes-last)

-- what was written to a row writer, with lookups on the way, came to its writer
through-run : (o : Option Error) (n m : GName) (s : Sink) (items : Stream)
    (r : Result (Unit {0}) Error) (t : Sink)
    → WritesWithLookups o (sink_through n s) items r (sink_through m t)
    → (m ≡ n) × WritesWithLookups o s items r t
unfolding with_written is_known
through-run o n m s items (Ok tt) t p = grind (arith, common_steps, same_reference, writes_before)
through-run o n m s items (Err e) t p =
    grind (arith, common_steps, same_reference, writes_before, same_head, same_frame)

-- the writer comes back from the row writer that has written rows, with lookups on the way, and has
-- received them
pub rows-rendered : {W : Type 0} (sink : W → Sink) {o : Option Error} {context other : RowContext}
    {width wide : Option ℕ} (rows : List Row) (before after : RowWriter W) {name : GName}
    {old new : W}
    {r : Result (Unit {0}) Error}
    → width ≡ wide → context ≡ other → inner_reference before ≡ name → inner_writer before ≡ old
    → WritesWithLookups o (row_writer_sink sink before) (fitted_stream width context rows) r
    (row_writer_sink sink after)
    → (name ≡ inner_reference after → new ≡ inner_writer after)
    → WritesWithLookups o (sink old) (fitted_stream wide other rows) r (sink new)
rows-rendered sink {o} {context} {width = width} rows before after {r = r} same equal called
    previous writes back =
    grind (arith, common_steps, through-run)
