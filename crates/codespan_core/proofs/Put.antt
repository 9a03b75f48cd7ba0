-- For the clauses of `put_all` and `forward_put`: a loop of `put`.
use Rattle.codespan_core.proofs.Std.{◌≡◌, ℕ, ◌<◌, true, ltb, List, [], ◌∷◌}
use Rattle.codespan_core.proofs.Std.{◌++◌, length, take, drop, refl, sym, ap, ◌∙◌, arith}
use Rattle.codespan_core.proofs.Std.{Option, None, Some, is_some, suc, zero, ne_eqb, false≢true}
use Rattle.codespan_core.proofs.Std.{nat_tests, take-append-drop}
use Rattle.std.specs.Io.KnownBytes.{append_known, Appends, Keeps}
use Rattle.codespan_core.specs.{byte_stream, Frame, Sink, failed_frame, after_put, with_written}
use Rattle.codespan_core.specs.{is_known, are_known, extended, PrefixWritten}
use Rattle.codespan_core.proofs.StyleMarks.{sink-by}
use Rattle.codespan_core.proofs.KnownBytes.{append_known-nil}
use Rattle.codespan_core.proofs.Writes.{spelled-byte_stream, byte_stream-append}

-- a `put` that takes none of some bytes sets the flag
pub after_put-none : (f : Frame) (bs : List ℕ) (n : ℕ) → n ≡ 0 → 0 < length bs
    → after_put f bs n ≡ failed_frame f
after_put-none f bs n e h =
    rw e (let t : ltb 0 (length bs) ≡ true = grind (arith, nat_tests) in rw t refl)

-- one that takes some bytes, or that is passed none, does not
pub after_put-some : (f : Frame) (bs : List ℕ) (n : ℕ) → (n ≡ 0 → length bs ≡ 0)
    → after_put f bs n ≡ f
after_put-some f [] zero h = refl
after_put-some f (b ∷ bs) zero h = absurd (omega (arith, h refl))
after_put-some f bs (suc n) h = rw (ne_eqb (suc n) 0 (λ e. omega (arith, e))) refl

-- what one `put` did, as a stream
pub put-with_written : (s : Sink) (bs : List ℕ) (n : ℕ) (t : Sink) → (n ≡ 0 → ⊥)
    → (t.frame ≡ after_put s.frame bs n)
    × (is_known s ≡ true → t.contents ≡ append_known s.contents (take n bs))
    → (t.frame ≡ s.frame)
    × (is_known s ≡ true → t ≡ with_written s (byte_stream (take n bs)))
unfolding with_written extended
put-with_written s bs n t h p =
    let f : t.frame ≡ s.frame = p.0 ∙ after_put-some s.frame bs n (λ e. absurd (h e)) in (
      f,
      λ known. sink-by s t _ _ f (p.1 known
          ∙ ap (append_known s.contents)
          (sym (spelled-byte_stream s.frame.spelling (take n bs)))),
    )

-- none of the bytes were written
none_written : (s : Sink) (bs : List ℕ) (t : Sink) → t.contents ≡ append_known s.contents []
    → PrefixWritten s (byte_stream bs) t
unfolding extended
none_written s bs t same = record {
  prefix = [];
  rest = bs;
  whole = sym (spelled-byte_stream s.frame.spelling bs);
  contents = same;
}

-- a `put` that took none of some bytes, as a failed stream
pub put-none : (s : Sink) (bs : List ℕ) (n : ℕ) (t : Sink) → n ≡ 0 → 0 < length bs
    → (t.frame ≡ after_put s.frame bs n)
    × (is_known s ≡ true → t.contents ≡ append_known s.contents (take n bs))
    → (t.frame ≡ failed_frame s.frame)
    × (is_known s ≡ true → PrefixWritten s (byte_stream bs) t)
put-none s bs n t e h p =
    let f : t.frame ≡ failed_frame s.frame = p.0 ∙ after_put-none s.frame bs n e h in (
      f,
      λ known. none_written s bs t
          (p.1 known ∙ ap (λ (k : ℕ). append_known s.contents (take k bs)) e),
    )

-- a `put` that failed, as a failed stream
pub put-failed : (s : Sink) (bs : List ℕ) (t : Sink)
    → (t.frame ≡ failed_frame s.frame) × (is_known s ≡ true → t.contents ≡ s.contents)
    → (t.frame ≡ failed_frame s.frame)
    × (is_known s ≡ true → PrefixWritten s (byte_stream bs) t)
put-failed s bs t p = (
  p.0,
  λ known. none_written s bs t (p.1 known ∙ sym (append_known-nil s.contents)),
)

-- the bytes that were taken, and those that are left
pub byte_stream-take : (n : ℕ) (bs : List ℕ) → byte_stream bs ≡ byte_stream (take n bs)
    ++ byte_stream (drop n bs)
byte_stream-take n bs = ap byte_stream (sym (take-append-drop n bs))
    ∙ byte_stream-append (take n bs) (drop n bs)

-- ---- a `put` that is one `write` of the inner writer

Appends-some : (o m : Option (List ℕ)) (bs : List ℕ) → is_some o ≡ true → Appends o m bs
    → m ≡ append_known o bs
Appends-some None m bs h a = absurd (false≢true h)
Appends-some (Some xs) None bs h a = absurd a
Appends-some (Some xs) (Some ys) bs h a = ap (λ (l : List ℕ). Some l) a

Keeps-some : (o m : Option (List ℕ)) → is_some o ≡ true → Keeps o m → m ≡ o
Keeps-some None m h a = absurd (false≢true h)
Keeps-some (Some xs) None h a = absurd a
Keeps-some (Some xs) (Some ys) h a = ap (λ (l : List ℕ). Some l) a

-- a write to the inner writer
pub known-appends : (s : Sink) (m : Option (List ℕ)) (bs : List ℕ) → is_known s ≡ true
    → Appends s.contents m bs → m ≡ append_known s.contents bs
unfolding is_known are_known
known-appends s m bs h a = Appends-some s.contents m bs h a

-- a write to the inner writer that failed
pub known-keeps : (s : Sink) (m : Option (List ℕ)) → is_known s ≡ true → Keeps s.contents m
    → m ≡ s.contents
unfolding is_known are_known
known-keeps s m h a = Keeps-some s.contents m h a

-- one `put`
pub ruleset writing = (after_put-none, after_put-some, known-appends, known-keeps)
