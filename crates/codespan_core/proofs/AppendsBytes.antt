-- For the clauses of `write_all`, and of `set_color` of `Ansi` of `codespan_base`: bytes that a
-- writer takes, call after call.
use Rattle.codespan_core.proofs.Std.{◌≡◌, ℕ, true, List, [], ◌∷◌, ◌++◌, Option}
use Rattle.codespan_core.proofs.Std.{Result, Ok, Err, sym, ap, subst, ◌∙◌}
use Rattle.codespan_core.proofs.Std.{err_from_is_err_and}
use Rattle.std.specs.Borrow.{GName}
use Rattle.std.specs.Result.{IsErrAnd}
use Rattle.codespan_core.specs.declared.term.config.plain_ref.PlainWriterRef.{PlainWriterRef}
use Rattle.codespan_core.specs.{byte_stream, plain_spelling, Frame, Sink, KeepsFrame, Writes}
use Rattle.codespan_core.specs.{is_known, with_written, are_known, extended, PrefixAppended}
use Rattle.codespan_core.specs.{AppendsBytes, fresh_plain_ref_sink, plain_reference, plain_ref_sink}
use Rattle.codespan_core.specs.{borrowed_writer}
use Rattle.codespan_core.proofs.KnownBytes.{extended-append, extended-nil, are_known-extended}
use Rattle.codespan_core.proofs.KnownBytes.{PrefixAppended-first, PrefixAppended-last}
use Rattle.codespan_core.proofs.KnownBytes.{PrefixAppended_first_2, PrefixAppended_first_3}
use Rattle.codespan_core.proofs.Writes.{spelled-byte_stream}

-- calls that write bytes, one after another
pub ruleset append_chains = (
  extended-append,
  extended-nil,
  are_known-extended,
  PrefixAppended-first,
  PrefixAppended-last,
  PrefixAppended_first_2,
  PrefixAppended_first_3,
)

-- ---- calls that write bytes, each where the one before it succeeded

-- the bytes were written
abbrev pub BytesAppended : Option (List ℕ) → List ℕ → Option (List ℕ) → Type 0
BytesAppended o bs m = are_known o ≡ true → m ≡ extended o bs

-- a prefix of the bytes was written
abbrev pub BytesPrefixAppended : Option (List ℕ) → List ℕ → Option (List ℕ) → Type 0
BytesPrefixAppended o bs m = are_known o ≡ true → PrefixAppended o bs m

are_known-after : (o m : Option (List ℕ)) (a : List ℕ) → are_known o ≡ true
    → m ≡ extended o a
    → are_known m ≡ true
are_known-after o m a known e = ap are_known e ∙ are_known-extended o a ∙ known

-- other bytes were written after them
pub appended-then : (o : Option (List ℕ)) (a b : List ℕ) (m k : Option (List ℕ))
    → BytesAppended o a m → BytesAppended m b k → BytesAppended o (a ++ b) k
appended-then o a b m k p q = λ known.
    let e = p known in
    q (are_known-after o m a known e) ∙ ap (λ (x : Option (List ℕ)). extended x b) e
    ∙ sym (extended-append o a b)

-- a prefix of the bytes after them was written
pub prefix-then : (o : Option (List ℕ)) (a b : List ℕ) (m k : Option (List ℕ))
    → BytesAppended o a m
    → BytesPrefixAppended m b k → BytesPrefixAppended o (a ++ b) k
prefix-then o a b m k p q = λ known.
    let e = p known in
    PrefixAppended-last o a b k
    (subst (λ (x : Option (List ℕ)). PrefixAppended x b k) e
    (q (are_known-after o m a known e)))

-- a prefix of the first bytes was written, and none of the bytes after them
pub prefix-before : (o : Option (List ℕ)) (a b : List ℕ) (k : Option (List ℕ))
    → BytesPrefixAppended o a k → BytesPrefixAppended o (a ++ b) k
prefix-before o a b k p = λ known. PrefixAppended-first o a k b (p known)

-- the clause of all calls follows from that of the last one
pub appends-last : {E : Type 0} (o : Option (List ℕ)) (a b : List ℕ) (m k : Option (List ℕ))
    (r : Result (Unit {0}) E)
    → BytesAppended o a m → AppendsBytes m b r k → AppendsBytes o (a ++ b) r k
appends-last o a b m k (Ok x) p q = appended-then o a b m k p q
appends-last o a b m k (Err x) p q = prefix-then o a b m k p q

-- the clause of all calls follows from the call that failed
pub appends-failed : {E : Type 0} (Q : E → Type 0) (o : Option (List ℕ)) (a : List ℕ)
    (k : Option (List ℕ)) (r : Result (Unit {0}) E)
    → IsErrAnd r Q → BytesPrefixAppended o a k → AppendsBytes o a r k
appends-failed Q o a k r h p = let e = (err_from_is_err_and r h).1 in rw e p

-- ---- a borrowed writer

-- a call that writes keeps the reference by which the writer is borrowed
keeps_reference : {W E : Type 0} (contents_of : W → Option (List ℕ))
    (before after : PlainWriterRef W) (name : GName) (contents : Option (List ℕ)) (x : W)
    (r : Result (Unit {0}) E)
    → plain_ref_sink contents_of before ≡ fresh_plain_ref_sink name contents
    → KeepsFrame (plain_ref_sink contents_of before).frame r
    (plain_ref_sink contents_of after).frame
    → (name ≡ plain_reference after → x ≡ borrowed_writer after)
    → x ≡ borrowed_writer after
keeps_reference contents_of before after name contents x (Ok done) begins keeps back =
    let kept : (plain_reference after ∷ []) ≡ (name ∷ []) =
    ap (λ (f : Frame). f.borrows) keeps ∙ ap (λ (s : Sink). s.frame.borrows) begins in
    back cc
keeps_reference contents_of before after name contents x (Err e) begins keeps back =
    let kept : (plain_reference after ∷ []) ≡ (name ∷ []) =
    ap (λ (f : Frame). f.borrows) keeps ∙ ap (λ (s : Sink). s.frame.borrows) begins in
    back cc

-- bytes that were written through the reference are in the borrowed writer
pub written_to_plain_ref : {W E : Type 0} (contents_of : W → Option (List ℕ))
    (before after : PlainWriterRef W) (name : GName) (contents : Option (List ℕ)) (x : W)
    (bs : List ℕ) (r : Result (Unit {0}) E)
    → plain_ref_sink contents_of before ≡ fresh_plain_ref_sink name contents
    → Writes (plain_ref_sink contents_of before) (byte_stream bs) r
    (plain_ref_sink contents_of after)
    → (name ≡ plain_reference after → x ≡ borrowed_writer after)
    → AppendsBytes contents bs r (contents_of x)
unfolding with_written is_known
written_to_plain_ref {W} {E} contents_of before after name contents x bs (Ok done) begins p back =
    λ known.
    let previous : contents_of (borrowed_writer before) ≡ contents =
    ap (λ (s : Sink). s.contents) begins in
    ap contents_of
    (keeps_reference {E = E} contents_of before after name contents x (Ok done) begins p.0 back)
    ∙ ap (λ (s : Sink). s.contents) (p.1 (ap are_known previous ∙ known))
    ∙ ap (extended (contents_of (borrowed_writer before))) (spelled-byte_stream plain_spelling bs)
    ∙ ap (λ (o : Option (List ℕ)). extended o bs) previous
written_to_plain_ref {W} {E} contents_of before after name contents x bs (Err e) begins p back =
    λ known.
    let previous : contents_of (borrowed_writer before) ≡ contents =
    ap (λ (s : Sink). s.contents) begins in
    let written_prefix = p.1 (ap are_known previous ∙ known) in
    record {
      prefix = written_prefix.prefix;
      rest = written_prefix.rest;
      whole = written_prefix.whole ∙ spelled-byte_stream plain_spelling bs;
      contents =
          ap contents_of
          (keeps_reference {E = E} contents_of before after name contents x (Err e) begins p.0 back)
          ∙ written_prefix.contents
          ∙ ap (λ (o : Option (List ℕ)). extended o written_prefix.prefix) previous;
    }
