-- For the clause of `put_pair`, and of each function that writes a row: calls that write one after
-- another, each where the one before it succeeded.
use Rattle.codespan_core.proofs.Std.{◌≡◌, true, ◌++◌, ap, sym, subst, ◌∙◌, Result}
use Rattle.codespan_core.proofs.Std.{Ok, Err, err_from_is_err_and}
use Rattle.std.specs.Result.{IsErrAnd}
use Rattle.codespan_core.specs.{Stream, Sink, with_written, is_known, PrefixWritten, Writes}
use Rattle.codespan_core.specs.{failed_frame}
use Rattle.codespan_core.proofs.Writes.{is_known-with_written, with_written-append}
use Rattle.codespan_core.proofs.Writes.{PrefixWritten-first, PrefixWritten-last}

-- the stream was written
abbrev pub WroteStream : Sink → Stream → Sink → Type 0
WroteStream s items t = (t.frame ≡ s.frame)
    × (is_known s ≡ true → t ≡ with_written s items)

-- a prefix of the stream was written, and the writer failed
abbrev pub WrotePrefix : Sink → Stream → Sink → Type 0
WrotePrefix s items t =
    (t.frame ≡ failed_frame s.frame) × (is_known s ≡ true → PrefixWritten s items t)

-- known bytes stay known
pub known-after : (s t : Sink) (a : Stream) → is_known s ≡ true → t ≡ with_written s a
    → is_known t ≡ true
known-after s t a known e = ap is_known e ∙ is_known-with_written s a ∙ known

-- another stream was written after it
pub written-then : (s : Sink) (a b : Stream) {t u : Sink} → WroteStream s a t
    → WroteStream t b u
    → WroteStream s (a ++ b) u
written-then s a b {t} {u} p q = (
  q.0 ∙ p.0,
  λ known. let e = p.1 known in
      q.1 (known-after s t a known e) ∙ ap (λ (x : Sink). with_written x b) e
      ∙ sym (with_written-append s a b),
)

-- the call that writes the stream after it failed
pub failed-then : (a : Stream) {s t u : Sink} {b : Stream} → WroteStream s a t
    → WrotePrefix t b u
    → WrotePrefix s (a ++ b) u
failed-then a {s} {t} {u} {b} p q = (
  q.0 ∙ ap failed_frame p.0,
  λ known. let e = p.1 known in PrefixWritten-last s a b u
      (subst (λ (x : Sink). PrefixWritten x b u) e (q.1 (known-after s t a known e))),
)

-- the call that writes the first stream failed, so nothing of the stream after it was written
pub failed-before : (b : Stream) {s t : Sink} {a : Stream} → WrotePrefix s a t
    → WrotePrefix s (a ++ b) t
failed-before b {s} {t} {a} p = (p.0, λ known. PrefixWritten-first s a t b (p.1 known))

-- the clause of all calls follows from that of the last one
pub writes-last : {E : Type 0} (s : Sink) (a b : Stream) {t : Sink} (u : Sink)
    (r : Result (Unit {0}) E)
    → WroteStream s a t → Writes t b r u → Writes s (a ++ b) r u
writes-last s a b u (Ok x) p q = written-then s a b p q
writes-last s a b u (Err x) p q = failed-then a p q

-- the clause of all calls follows from the call that failed
pub failed : {E : Type 0} (Q : E → Type 0) (s : Sink) (a : Stream) (t : Sink)
    (r : Result (Unit {0}) E)
    → IsErrAnd r Q → WrotePrefix s a t → Writes s a r t
failed Q s a t r h p = let e = (err_from_is_err_and r h).1 in rw e p
