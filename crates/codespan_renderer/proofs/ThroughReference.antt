-- For `put` of `Renderer` and `RowWriter`, the `set_` calls and `reset` of `Renderer`, and
-- `put_mark` of `RowWriter`: a writer behind a reference takes what the writer takes.
use Rattle.codespan_core.proofs.Std.{◌≡◌, ℕ, Bool, true, false, cond, List, ◌∷◌, refl}
use Rattle.codespan_core.proofs.Std.{ap, Result, Ok, Err, arith, common_steps}
use Rattle.std.specs.Borrow.{GName}
use Rattle.codespan_core.specs.Streams.{Stream}
use Rattle.codespan_core.specs.WriterLaw.{Sink, Frame, is_known, failed_frame, with_written}
use Rattle.codespan_core.specs.WriterLaw.{PrefixWritten, Writes, Puts}
use Rattle.codespan_renderer.specs.{sink_through}

prefix_through : (name : GName) (s : Sink) (items : Stream) (t : Sink) → PrefixWritten s items t
    → PrefixWritten (sink_through name s) items (sink_through name t)
prefix_through name s items t p = grind (arith, common_steps)

abbrev frame_through : GName → Frame → Frame
frame_through name f = record f { borrows = name ∷ f.borrows }

-- a call of the writer has the same result behind the reference
pub writes_through : {E : Type 0} (name : GName) (s : Sink) (items : Stream)
    (r : Result (Unit {0}) E) (t : Sink)
    → Writes s items r t → Writes (sink_through name s) items r (sink_through name t)
unfolding with_written is_known
writes_through name s items (Ok x) t p = grind (arith, common_steps)
writes_through name s items (Err x) t p = grind (arith, common_steps, prefix_through)

flag_through : (name : GName) (f : Frame) (b : Bool)
    → frame_through name (cond b (failed_frame f) f)
    ≡ cond b (failed_frame (frame_through name f))
    (frame_through name f)
flag_through name f true = refl
flag_through name f false = refl

-- so has a `put`
pub puts_through : {E : Type 0} (name : GName) (s : Sink) (bs : List ℕ) (r : Result ℕ E)
    (t : Sink)
    → Puts s bs r t → Puts (sink_through name s) bs r (sink_through name t)
unfolding is_known
puts_through name s bs (Ok n) t p = grind (arith, common_steps, flag_through)
puts_through name s bs (Err x) t p = (ap (frame_through name) p.0, p.1)
