-- For `Loops`, `Put`, `Chains` and each clause `Writes`: calls that write, one after another.
use Rattle.codespan_core.proofs.Std.{◌≡◌, ℕ, List, [], ◌∷◌, ◌++◌, refl, sym, ap}
use Rattle.codespan_core.proofs.Std.{◌∙◌, append_assoc, Option}
use Rattle.codespan_core.specs.{Stream, Byte, Mark, Slot, Spelling, spelled, byte_stream, Sink}
use Rattle.codespan_core.specs.{with_written, is_known, extended, PrefixWritten}
use Rattle.codespan_core.proofs.KnownBytes.{extended-append, extended-nil, are_known-extended}
use Rattle.codespan_core.specs.{plain_spelling, text_of}

-- what two streams spell, one after the other
pub spelled-append : (f : Spelling) (a b : Stream)
    → spelled f (a ++ b) ≡ spelled f a ++ spelled f b
spelled-append f [] b = refl
spelled-append f (Slot k ∷ a) b = spelled-append f a b
spelled-append f (Byte x ∷ a) b = ap (λ (l : List ℕ). x ∷ l) (spelled-append f a b)
spelled-append f (Mark m ∷ a) b =
    ap (λ (l : List ℕ). f m ++ l) (spelled-append f a b)
    ∙ sym (append_assoc (f m) (spelled f a) (spelled f b))

-- bytes are spelled as themselves
pub spelled-byte_stream : (f : Spelling) (bs : List ℕ) → spelled f (byte_stream bs) ≡ bs
unfolding byte_stream
spelled-byte_stream f [] = refl
spelled-byte_stream f (b ∷ bs) = ap (λ (l : List ℕ). b ∷ l) (spelled-byte_stream f bs)

-- a stream whose style marks are spelled as nothing is its text
pub spelled-plain : (s : Stream) → spelled plain_spelling s ≡ text_of s
spelled-plain [] = refl
spelled-plain (Byte b ∷ s) = ap (λ (l : List ℕ). b ∷ l) (spelled-plain s)
spelled-plain (Mark m ∷ s) = spelled-plain s
spelled-plain (Slot k ∷ s) = spelled-plain s

-- two texts as one stream
pub byte_stream-append : (a b : List ℕ)
    → byte_stream (a ++ b) ≡ byte_stream a ++ byte_stream b
unfolding byte_stream
byte_stream-append [] b = refl
byte_stream-append (x ∷ a) b = ap (λ (l : Stream). Byte x ∷ l) (byte_stream-append a b)

-- a stream was written, and then another
pub with_written-append : (s : Sink) (a b : Stream)
    → with_written s (a ++ b) ≡ with_written (with_written s a) b
unfolding with_written
with_written-append s a b =
    ap (λ (o : Option (List ℕ)). record s { contents = o })
    (ap (extended s.contents) (spelled-append s.frame.spelling a b)
    ∙ extended-append s.contents (spelled s.frame.spelling a) (spelled s.frame.spelling b))

-- a prefix of the first part is one of the whole
pub PrefixWritten-first : (s : Sink) (a : Stream) (t : Sink) (b : Stream) → PrefixWritten s a t
    → PrefixWritten s (a ++ b) t
PrefixWritten-first s a t b p = record {
  prefix = p.prefix;
  rest = p.rest ++ spelled s.frame.spelling b;
  whole =
      sym (append_assoc p.prefix p.rest (spelled s.frame.spelling b))
      ∙ ap (λ (l : List ℕ). l ++ spelled s.frame.spelling b) p.whole
      ∙ sym (spelled-append s.frame.spelling a b);
  contents = p.contents;
}

-- a prefix of the last part, after the first part was written
pub PrefixWritten-last : (s : Sink) (a b : Stream) (u : Sink)
    → PrefixWritten (with_written s a) b u
    → PrefixWritten s (a ++ b) u
unfolding with_written
PrefixWritten-last s a b u q = record {
  prefix = spelled s.frame.spelling a ++ q.prefix;
  rest = q.rest;
  whole =
      append_assoc (spelled s.frame.spelling a) q.prefix q.rest
      ∙ ap (λ (l : List ℕ). spelled s.frame.spelling a ++ l) q.whole
      ∙ sym (spelled-append s.frame.spelling a b);
  contents = q.contents ∙ sym (extended-append s.contents (spelled s.frame.spelling a) q.prefix);
}

-- nothing was written
pub with_written-nil : (s : Sink) → with_written s [] ≡ s
unfolding with_written
with_written-nil s =
    ap (λ (o : Option (List ℕ)). record s { contents = o }) (extended-nil s.contents)

-- known bytes stay known
pub is_known-with_written : (s : Sink) (a : Stream) → is_known (with_written s a) ≡ is_known s
unfolding with_written is_known
is_known-with_written s a = are_known-extended s.contents (spelled s.frame.spelling a)

-- a prefix of the first part is one of the whole, however many parts follow
pub PrefixWritten_first_2 : (s : Sink) (a : Stream) (t : Sink) (b1 b2 : Stream)
    → PrefixWritten s a t → PrefixWritten s (a ++ b1 ++ b2) t
PrefixWritten_first_2 s a t b1 b2 p =
    PrefixWritten-first s (a ++ b1) t b2 (PrefixWritten-first s a t b1 p)

pub PrefixWritten_first_3 : (s : Sink) (a : Stream) (t : Sink) (b1 b2 b3 : Stream)
    → PrefixWritten s a t → PrefixWritten s (a ++ b1 ++ b2 ++ b3) t
PrefixWritten_first_3 s a t b1 b2 b3 p =
    PrefixWritten-first s (a ++ b1 ++ b2) t b3 (PrefixWritten_first_2 s a t b1 b2 p)

pub PrefixWritten_first_4 : (s : Sink) (a : Stream) (t : Sink) (b1 b2 b3 b4 : Stream)
    → PrefixWritten s a t → PrefixWritten s (a ++ b1 ++ b2 ++ b3 ++ b4) t
PrefixWritten_first_4 s a t b1 b2 b3 b4 p =
    PrefixWritten-first s (a ++ b1 ++ b2 ++ b3) t b4 (PrefixWritten_first_3 s a t b1 b2 b3 p)

pub PrefixWritten_first_5 : (s : Sink) (a : Stream) (t : Sink) (b1 b2 b3 b4 b5 : Stream)
    → PrefixWritten s a t → PrefixWritten s (a ++ b1 ++ b2 ++ b3 ++ b4 ++ b5) t
PrefixWritten_first_5 s a t b1 b2 b3 b4 b5 p =
    PrefixWritten-first s (a ++ b1 ++ b2 ++ b3 ++ b4) t b5
    (PrefixWritten_first_4 s a t b1 b2 b3 b4 p)

pub PrefixWritten_first_6 : (s : Sink) (a : Stream) (t : Sink) (b1 b2 b3 b4 b5 b6 : Stream)
    → PrefixWritten s a t → PrefixWritten s (a ++ b1 ++ b2 ++ b3 ++ b4 ++ b5 ++ b6) t
PrefixWritten_first_6 s a t b1 b2 b3 b4 b5 b6 p =
    PrefixWritten-first s (a ++ b1 ++ b2 ++ b3 ++ b4 ++ b5) t b6
    (PrefixWritten_first_5 s a t b1 b2 b3 b4 b5 p)

pub PrefixWritten_first_7 : (s : Sink) (a : Stream) (t : Sink) (b1 b2 b3 b4 b5 b6 b7 : Stream)
    → PrefixWritten s a t → PrefixWritten s (a ++ b1 ++ b2 ++ b3 ++ b4 ++ b5 ++ b6 ++ b7) t
PrefixWritten_first_7 s a t b1 b2 b3 b4 b5 b6 b7 p =
    PrefixWritten-first s (a ++ b1 ++ b2 ++ b3 ++ b4 ++ b5 ++ b6) t b7
    (PrefixWritten_first_6 s a t b1 b2 b3 b4 b5 b6 p)

pub PrefixWritten_first_8 : (s : Sink) (a : Stream) (t : Sink) (b1 b2 b3 b4 b5 b6 b7 b8 : Stream)
    → PrefixWritten s a t → PrefixWritten s (a ++ b1 ++ b2 ++ b3 ++ b4 ++ b5 ++ b6 ++ b7 ++ b8)
    t
PrefixWritten_first_8 s a t b1 b2 b3 b4 b5 b6 b7 b8 p =
    PrefixWritten-first s (a ++ b1 ++ b2 ++ b3 ++ b4 ++ b5 ++ b6 ++ b7) t b8
    (PrefixWritten_first_7 s a t b1 b2 b3 b4 b5 b6 b7 p)

pub PrefixWritten_first_9 : (s : Sink) (a : Stream) (t : Sink) (b1 b2 b3 b4 b5 b6 b7 b8 b9 : Stream)
    → PrefixWritten s a t
    → PrefixWritten s (a ++ b1 ++ b2 ++ b3 ++ b4 ++ b5 ++ b6 ++ b7 ++ b8 ++ b9) t
PrefixWritten_first_9 s a t b1 b2 b3 b4 b5 b6 b7 b8 b9 p =
    PrefixWritten-first s (a ++ b1 ++ b2 ++ b3 ++ b4 ++ b5 ++ b6 ++ b7 ++ b8) t b9
    (PrefixWritten_first_8 s a t b1 b2 b3 b4 b5 b6 b7 b8 p)

-- calls that write, one after another
pub ruleset write_chains = (
  is_known-with_written,
  with_written-append,
  with_written-nil,
  PrefixWritten-first,
  PrefixWritten-last,
  PrefixWritten_first_2,
  PrefixWritten_first_3,
  PrefixWritten_first_4,
  PrefixWritten_first_5,
  PrefixWritten_first_6,
  PrefixWritten_first_7,
  PrefixWritten_first_8,
  PrefixWritten_first_9,
)
