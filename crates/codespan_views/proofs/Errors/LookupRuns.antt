-- Rendering with lookups on the way, part by part: what has been written, what was looked up, and
-- what an error cut short. For the clauses of `render`, `render_snippets`, `render_line` and
-- `render_break`.
use Rattle.codespan_core.proofs.Std.{◌≡◌, ◌≢◌, [], ◌++◌, Option, None, Some, Result}
use Rattle.codespan_core.proofs.Std.{Ok, Err, inl, refl, ◌∙◌, IfErr, IsErrOf, arith}
use Rattle.codespan_core.proofs.Std.{common_steps}
use Rattle.codespan_core.specs.Errors.{IsIo}
use Rattle.codespan_core.specs.FileModel.{or_failure}
use Rattle.codespan_core.specs.Streams.{Stream}
use Rattle.codespan_core.specs.WriterLaw.{Sink, Writes}
use Rattle.codespan_output.specs.Types.{Error, OutOfMemory}
use Rattle.codespan_views.specs.Private.{WritesWithLookups}
use Rattle.codespan_core.proofs.Chains.{written-then, failed-before, failed-then, known-after}
use Rattle.codespan_core.proofs.Writes.{with_written-nil, PrefixWritten-first, PrefixWritten-last}
use Rattle.codespan_views.proofs.Outputs.Renderings.{PrefixWritten-none}

-- ---- one part

-- a lookup that succeeds writes nothing
pub run_of_lookup : {o : Option Error} {s : Sink} → o ≡ None
    → WritesWithLookups o s [] (Ok tt) s
run_of_lookup {s = s} succeeded = grind (arith, common_steps, with_written-nil)

-- a call that only writes looks up nothing
pub run_of_writes : {s t : Sink} {a : Stream} (r : Result (Unit {0}) Error) → Writes s a r t
    → IfErr r IsIo → WritesWithLookups None s a r t
run_of_writes (Ok x) writes io = record { ends = (refl, writes) }
run_of_writes (Err e) writes io = record { ends = inl (io, writes) }

-- a lookup that fails leaves the writer unchanged, whatever stream was to be written
pub run_failed : {o : Option Error} {s : Sink} {a : Stream} {e : Error}
    → (e ≢ OutOfMemory → o ≡ Some e) → WritesWithLookups o s a (Err e) s
run_failed {s = s} {a = a} known = grind (arith, common_steps, PrefixWritten-none)

-- an allocation failed before anything was written
pub run_out_of_memory : {T : Type 0} {o : Option Error} {s : Sink} {a : Stream} {e x : Error}
    → e ≡ x → IsErrOf {T = T} (Err x) OutOfMemory → WritesWithLookups o s a (Err e) s
run_out_of_memory same is = run_failed (λ other. absurd (let e = same ∙ cc is in other e))

-- ---- one part after another

-- a part that succeeded, and then another, however that one ends
pub run_then : {o p : Option Error} {s t u : Sink} {a b : Stream} {r : Result (Unit {0}) Error}
    → WritesWithLookups o s a (Ok tt) t → WritesWithLookups p t b r u
    → WritesWithLookups (or_failure o p) s (a ++ b) r u
run_then {o = o} {p = p} {s = s} {a = a} {b = b} {r = Ok y} first second = record {
  ends = (
    rw first.ends.0 second.ends.0,
    written-then s a b first.ends.1 second.ends.1,
  );
}
run_then {o = o} {p = p} {s = s} {t = t} {u = u} {a = a} {b = b} {r = Err e} first second =
    grind (arith, common_steps, failed-then, PrefixWritten-last, known-after)

-- a part that failed, with more that was to be written and looked up after it
pub run_cut : (p : Option Error) (b : Stream) {o : Option Error} {s t : Sink} {a : Stream}
    {e : Error}
    → WritesWithLookups o s a (Err e) t
    → WritesWithLookups (or_failure o p) s (a ++ b) (Err e) t
run_cut p b {o} {s} {t} {a} {e} part =
    grind (arith, common_steps, failed-before, PrefixWritten-first)

-- an equal error and an equal stream
pub run_as : {o p : Option Error} {s t : Sink} {a b : Stream} {r : Result (Unit {0}) Error}
    → o ≡ p
    → a ≡ b → WritesWithLookups o s a r t → WritesWithLookups p s b r t
run_as same_failure same_stream part = rw (← same_failure, ← same_stream) part

-- ---- what is left to do

-- this is left of a call, and nothing has failed: however the rest ends, so does the whole
pub record IsLeft (failure : Option Error) (old : Sink) (whole : Stream) (later : Option Error)
    (now : Sink) (rest : Stream) : Type 0 where
  pub frame : now.frame ≡ old.frame
  pub finish : {r : Result (Unit {0}) Error} {new : Sink} → WritesWithLookups later now rest r new
      → WritesWithLookups failure old whole r new

-- the same is left, with an equal error and an equal stream
pub left_as : {failure o p : Option Error} {old s : Sink} {whole a b : Stream} → o ≡ p
    → a ≡ b
    → IsLeft failure old whole o s a → IsLeft failure old whole p s b
left_as same_failure same_stream left = grind (arith, common_steps, run_as)

module _ {failure : Option Error} {old : Sink} {whole : Stream} {o : Option Error} {s : Sink}
    {a : Stream} (p : Option Error) (b : Stream) where
  -- its next part succeeded
  pub left_after : {t : Sink} → WritesWithLookups o s a (Ok tt) t
      → IsLeft failure old whole (or_failure o p) s (a ++ b) → IsLeft failure old whole p t b
  left_after part left = grind (arith, common_steps, run_then)

  -- its next part failed
  pub left_cut : {t : Sink} {e : Error} → WritesWithLookups o s a (Err e) t
      → IsLeft failure old whole (or_failure o p) s (a ++ b)
      → WritesWithLookups failure old whole (Err e) t
  left_cut part left = left.finish (run_cut p b part)
