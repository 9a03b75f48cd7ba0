-- For the clauses of `put_all`, `put_spaces` and `put_runs`: a loop that writes a stream piece by
-- piece.
use Rattle.codespan_core.proofs.Std.{◌≡◌, true, [], ◌++◌, refl, sym, ap, subst, ◌∙◌}
use Rattle.codespan_core.proofs.Std.{append_assoc, append-nil, Result, Ok, Err}
use Rattle.codespan_core.specs.{Stream, Sink, with_written, is_known, PrefixWritten, Writes}
use Rattle.codespan_core.specs.{failed_frame}
use Rattle.codespan_core.proofs.Writes.{is_known-with_written, with_written-append}
use Rattle.codespan_core.proofs.Writes.{with_written-nil, PrefixWritten-first, PrefixWritten-last}

-- of the whole stream, which began at s, the rest is still to be written
pub record WrittenSoFar (s : Sink) (whole rest : Stream) (t : Sink) : Type 0 where
  pub done : Stream
  pub is_whole : done ++ rest ≡ whole
  pub is : t ≡ with_written s done

-- the same where the writer's bytes are known; it has not failed since
pub record StillToWrite (s : Sink) (whole rest : Stream) (t : Sink) : Type 0 where
  pub frame : t.frame ≡ s.frame
  pub known : is_known s ≡ true → WrittenSoFar s whole rest t

-- nothing has been written yet
pub StillToWrite-start : (s : Sink) (whole rest : Stream) → rest ≡ whole
    → StillToWrite s whole rest s
StillToWrite-start s whole rest e =
    record {
      frame =
          refl;
      known = λ h. record { done = []; is_whole = e; is = sym (with_written-nil s) };
    }

known_then : (s : Sink) (whole rest : Stream) (t : Sink) → is_known s ≡ true
    → StillToWrite s whole rest t → is_known t ≡ true
known_then s whole rest t h p =
    ap is_known (p.known h).is ∙ is_known-with_written s (p.known h).done ∙ h

-- the next piece was written
pub StillToWrite-more : (s : Sink) (whole rest : Stream) (t u : Sink) (piece next : Stream)
    → StillToWrite s whole rest t
    → (u.frame ≡ t.frame) × (is_known t ≡ true → u ≡ with_written t piece)
    → rest ≡ piece ++ next
    → StillToWrite s whole next u
StillToWrite-more s whole rest t u piece next p e r = record {
  frame = e.0 ∙ p.frame;
  known = λ h. let q : WrittenSoFar s whole rest t = p.known h in record {
    done = q.done ++ piece;
    is_whole =
        append_assoc q.done piece next ∙ ap (λ (l : Stream). q.done ++ l) (sym r) ∙ q.is_whole;
    is =
        e.1 (known_then s whole rest t h p) ∙ ap (λ (x : Sink). with_written x piece) q.is
        ∙ sym (with_written-append s q.done piece);
  };
}

-- the next piece failed
pub StillToWrite-failed : (s : Sink) (whole rest : Stream) (t u : Sink) (piece next : Stream)
    → StillToWrite s whole rest t
    → (u.frame ≡ failed_frame t.frame) × (is_known t ≡ true → PrefixWritten t piece u)
    → rest ≡ piece ++ next
    → (u.frame ≡ failed_frame s.frame) × (is_known s ≡ true → PrefixWritten s whole u)
StillToWrite-failed s whole rest t u piece next p e r = (
  e.0 ∙ ap failed_frame p.frame,
  λ h. let q : WrittenSoFar s whole rest t = p.known h in
      subst (λ (l : Stream). PrefixWritten s l u)
      (ap (λ (l : Stream). q.done ++ l) (sym r) ∙ q.is_whole)
      (PrefixWritten-last s q.done (piece ++ next) u
      (PrefixWritten-first (with_written s q.done) piece u next
      (subst (λ (x : Sink). PrefixWritten x piece u) q.is
      (e.1 (known_then s whole rest t h p))))),
)

-- what is still to be written, as an equal stream
pub StillToWrite-same : (s : Sink) (whole rest other : Stream) (t : Sink) → rest ≡ other
    → StillToWrite s whole rest t → StillToWrite s whole other t
StillToWrite-same s whole rest other t e p = subst (λ (l : Stream). StillToWrite s whole l t) e p

-- nothing is left
pub StillToWrite-end : (s : Sink) (whole rest : Stream) (t : Sink) → StillToWrite s whole rest t
    → rest ≡ [] → (t.frame ≡ s.frame)
    × (is_known s ≡ true → t ≡ with_written s whole)
StillToWrite-end s whole rest t p e = (
  p.frame,
  λ h. let q : WrittenSoFar s whole rest t = p.known h in q.is
      ∙ ap (with_written s)
      (sym (append-nil q.done) ∙ ap (λ (l : Stream). q.done ++ l) (sym e) ∙ q.is_whole),
)

-- the last call writes all that is left
pub StillToWrite-last : {E : Type 0} (s : Sink) (whole rest : Stream) (t : Sink)
    (r : Result (Unit {0}) E) (u : Sink)
    → StillToWrite s whole rest t → Writes t rest r u → Writes s whole r u
StillToWrite-last s whole rest t (Ok x) u p e =
    StillToWrite-end s whole [] u
    (StillToWrite-more s whole rest t u rest [] p e (sym (append-nil rest))) refl
StillToWrite-last s whole rest t (Err x) u p e =
    StillToWrite-failed s whole rest t u rest [] p e (sym (append-nil rest))
