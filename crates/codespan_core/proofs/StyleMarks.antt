-- For the clauses of the style marks of each `WriteStyle`: a style mark as the bytes that spell it,
-- and bytes that a writer of colors writes.
use Rattle.codespan_core.proofs.Std.{◌≡◌, ℕ, Bool, true, List, [], Option, append-nil}
use Rattle.codespan_core.proofs.Std.{Result, Ok, Err, refl, sym, ap, ◌∙◌}
use Rattle.std.proofs.Common.{MatchResult}
use Rattle.codespan_core.specs.{style_mark, byte_stream, Frame, Sink, is_known, are_known, extended}
use Rattle.codespan_core.specs.{PrefixAppended, AppendsBytes, with_written, with_failed}
use Rattle.codespan_core.specs.{PrefixWritten, Writes}
use Rattle.codespan_core.specs.declared.term.config.style_mark.StyleMark.{StyleMark}
use Rattle.codespan_core.proofs.KnownBytes.{extended-nil}
use Rattle.codespan_core.proofs.Writes.{spelled-byte_stream}

-- a style mark that is spelled as no bytes changes nothing
pub written_no_style_mark : (s : Sink) (m : StyleMark) → s.frame.spelling m ≡ []
    → with_written s (style_mark m) ≡ s
unfolding with_written style_mark
written_no_style_mark s m e =
    rw e (ap (λ (o : Option (List ℕ)). record s { contents = o }) (extended-nil s.contents))

-- a style mark was written where the bytes that spell it were
pub written_style_mark : (s : Sink) (m : StyleMark)
    → with_written s (style_mark m) ≡ with_written s (byte_stream (s.frame.spelling m))
unfolding with_written style_mark
written_style_mark s m =
    ap (λ (l : List ℕ). record s { contents = extended s.contents l })
    (append-nil (s.frame.spelling m)
    ∙ sym (spelled-byte_stream s.frame.spelling (s.frame.spelling m)))

-- a prefix of a style mark was written where one of the bytes that spell it was
pub prefix_style_mark : (s : Sink) (m : StyleMark) (t : Sink)
    → PrefixWritten s (byte_stream (s.frame.spelling m)) t → PrefixWritten s (style_mark m) t
unfolding style_mark
prefix_style_mark s m t p = record {
  prefix = p.prefix;
  rest = p.rest;
  whole =
      p.whole ∙ spelled-byte_stream s.frame.spelling (s.frame.spelling m)
      ∙ sym (append-nil (s.frame.spelling m));
  contents = p.contents;
}

-- a call that writes the bytes of a style mark
pub ruleset spelled_style_marks = (written_style_mark, prefix_style_mark)

-- a call that writes the bytes that spell a style mark writes the style mark
pub Writes-style_mark : {E : Type 0} (s : Sink) (m : StyleMark) (r : Result (Unit {0}) E) (t : Sink)
    → Writes s (byte_stream (s.frame.spelling m)) r t → Writes s (style_mark m) r t
Writes-style_mark s m (Ok x) t p = (p.0, λ known. p.1 known ∙ sym (written_style_mark s m))
Writes-style_mark s m (Err e) t p = (p.0, λ known. prefix_style_mark s m t (p.1 known))

-- ---- bytes that a writer of colors wrote

pub sink-by : (s t : Sink) (f : Frame) (o : Option (List ℕ)) → t.frame ≡ f
    → t.contents ≡ o
    → t ≡ record { frame = f; contents = o }
sink-by s t f o e h = rw (sym e, sym h) refl

-- a writer's bytes are known where these are
pub is_known_contents : (s : Sink) → is_known s ≡ true → are_known s.contents ≡ true
unfolding is_known
is_known_contents s h = h

-- the bytes were written
pub appended_written : (s t : Sink) (bs : List ℕ) → t.frame ≡ s.frame
    → t.contents ≡ extended s.contents bs → t ≡ with_written s (byte_stream bs)
unfolding with_written
appended_written s t bs f e =
    sink-by s t _ _ f
    (e ∙ ap (extended s.contents) (sym (spelled-byte_stream s.frame.spelling bs)))

-- a prefix of the bytes was written
pub prefix_written : (s t : Sink) (bs : List ℕ) → PrefixAppended s.contents bs t.contents
    → PrefixWritten s (byte_stream bs) t
prefix_written s t bs p =
    record {
      prefix =
          p.prefix;
      rest =
          p.rest;
      whole = p.whole ∙ sym (spelled-byte_stream s.frame.spelling bs);
      contents = p.contents;
    }

-- a call that writes these bytes, and whose failure sets the flag, writes them as a stream
pub Writes-forwarded : {E : Type 0} (f : Frame) (old new : Bool) (before after : Option (List ℕ))
    (bs : List ℕ) (returned r : Result (Unit {0}) E)
    → AppendsBytes before bs returned after → r ≡ returned
    → MatchResult r (λ _. new ≡ old) (λ _. new ≡ true)
    → Writes (with_failed f old before) (byte_stream bs) r (with_failed f new after)
Writes-forwarded f old new before after bs returned (Ok x) appends same flag =
    let frames = ap (λ (b : Bool). record f { failed = b }) flag in
    let appended = rw (← same) at appends in (
      frames,
      λ known. appended_written (with_failed f old before) (with_failed f new after) bs frames
          (appended (is_known_contents (with_failed f old before) known)),
    )
Writes-forwarded f old new before after bs returned (Err e) appends same flag =
    let appended = rw (← same) at appends in (
      ap (λ (b : Bool). record f { failed = b }) flag,
      λ known. prefix_written (with_failed f old before) (with_failed f new after) bs
          (appended (is_known_contents (with_failed f old before) known)),
    )
