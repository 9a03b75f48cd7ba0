-- For `Renders` of the `render_` calls: what rows wrote through the row writer came to the
-- renderer's writer.
use Rattle.codespan_core.proofs.Std.{◌≡◌, ℕ, List, [], ◌∷◌, ap, sym, ◌∙◌}
use Rattle.codespan_core.proofs.Std.{Result, Ok, Err, IfErr, arith, common_steps}
use Rattle.std.specs.Borrow.{GName}
use Rattle.codespan_core.specs.Errors.{IsIo}
use Rattle.codespan_core.specs.Streams.{Stream}
use Rattle.codespan_core.specs.WriterLaw.{Sink, Frame, is_known, with_written, Writes, Puts}
use Rattle.codespan_output.specs.Rows.{Line, RowContext, rows_of}
use Rattle.codespan_output.specs.RowStreams.{stream_of_rows}
use Rattle.codespan_output.specs.Types.{Error}
use Rattle.codespan_renderer.specs.Private.{SameOutcome, inner_reference, inner_writer}
use Rattle.codespan_renderer.specs.Private.{row_writer_sink}
use Rattle.codespan_renderer.specs.{Renders, SameRenderer, sink_through, writer_of}
use Rattle.codespan_renderer.specs.declared.term.renderer.Renderer.{Renderer}
use Rattle.codespan_renderer.specs.declared.term.renderer.row_writer.RowWriter.{RowWriter}

-- what was written, by another result with the same outcome
pub writes_as : {E F : Type 0} (s : Sink) (items : Stream) (r : Result (Unit {0}) E)
    (q : Result (Unit {0}) F) (t : Sink)
    → SameOutcome r q → Writes s items r t → Writes s items q t
writes_as s items (Ok x) (Ok y) t a p = p
writes_as s items (Ok x) (Err y) t a p = let clash = a in cc
writes_as s items (Err x) (Err y) t a p = p
writes_as s items (Err x) (Ok y) t a p = let clash = a in cc

pub puts_as : {E F : Type 0} (s : Sink) (bs : List ℕ) (r : Result ℕ E) (q : Result ℕ F)
    (t : Sink)
    → SameOutcome r q → Puts s bs r t → Puts s bs q t
puts_as s bs (Ok n) q t a p = rw a p
puts_as s bs (Err x) (Err y) t a p = p
puts_as s bs (Err x) (Ok y) t a p = let clash = a in cc

rest_of : List GName → List GName
rest_of [] = []
rest_of (name ∷ names) = names

abbrev frame_before : Frame → Frame
frame_before f = record f { borrows = rest_of f.borrows }

abbrev sink_before : Sink → Sink
sink_before s = record s { frame = frame_before s.frame }

-- what was written behind the reference was written to the writer
pub writes_before : {E : Type 0} (n m : GName) (s : Sink) (items : Stream) (r : Result (Unit {0}) E)
    (t : Sink)
    → Writes (sink_through n s) items r (sink_through m t) → Writes s items r t
unfolding with_written is_known rest_of
writes_before n m s items (Ok x) t p = (ap frame_before p.0, λ known. ap sink_before (p.1 known))
writes_before n m s items (Err x) t p = grind (arith, common_steps)

-- frames that are equal behind references are equal
pub same_frame : (n m : GName) (s t : Sink)
    → (sink_through m t).frame ≡ (sink_through n s).frame → t.frame ≡ s.frame
unfolding rest_of
same_frame n m s t p = ap frame_before p

-- and the references are the same
pub same_head : (n m : GName) (s t : Sink)
    → (sink_through m t).frame ≡ (sink_through n s).frame → m ≡ n
same_head n m s t p = grind (arith, common_steps)

-- what was written behind a reference was written behind the same one
pub same_reference : {E : Type 0} (n m : GName) (s : Sink) (items : Stream)
    (r : Result (Unit {0}) E) (t : Sink)
    → Writes (sink_through n s) items r (sink_through m t) → m ≡ n
same_reference n m s items (Ok x) t p = same_head n m s t p.0
same_reference n m s items (Err x) t p = grind (arith, common_steps)

-- equal contexts and equal lines make equal rows
pub same_rows : (context other : RowContext) (line second : Line) → context ≡ other
    → line ≡ second
    → stream_of_rows context (rows_of line) ≡ stream_of_rows other (rows_of second)
same_rows context other line second e h = grind (arith, common_steps)

-- the writer comes back from the row writer that has written a stream, and has received it
pub renders : {W E : Type 0} (sink : W → Sink) (items others : Stream) (old new : Renderer W)
    (before after : RowWriter W) (name : GName) (r : Result (Unit {0}) E)
    (q : Result (Unit {0}) Error)
    → items ≡ others → inner_reference before ≡ name
    → inner_writer before ≡ writer_of old
    → Writes (row_writer_sink sink before) items r (row_writer_sink sink after)
    → SameOutcome r q
    → IfErr q IsIo
    → (name ≡ inner_reference after → writer_of new ≡ inner_writer after)
    → SameRenderer old new
    → Renders sink others old q new
renders {W} {E} sink items others old new before after name r q equal called previous p same io back
    same_renderer =
    let through : inner_reference after ≡ inner_reference before =
    same_reference (inner_reference before) (inner_reference after) (sink (inner_writer before))
    items r (sink (inner_writer after)) p in
    let now : writer_of new ≡ inner_writer after = back (sym (through ∙ called)) in
    let written : Writes (sink (inner_writer before)) items r (sink (inner_writer after)) =
    writes_before (inner_reference before) (inner_reference after) (sink (inner_writer before))
    items r (sink (inner_writer after)) p in
    record {
      same = same_renderer;
      writes =
          rw (now, sym previous, sym equal)
          (writes_as (sink (inner_writer before)) items r q (sink (inner_writer after)) same
          written);
      io = io;
    }
