-- The law of writers: what a contract sees of a writer, and what each call does to it.
use Rattle.std.specs.Prelude.{◌≡◌, ℕ, Bool, true, List, ◌++◌, length, take, Option}
use Rattle.std.specs.Prelude.{Result, MatchResult, if◌then◌else◌, ◌==◌, ◌&&◌, nat_lt}
use Rattle.std.specs.Prelude.{is_some}
use Rattle.std.specs.Io.KnownBytes.{append_known}
use Rattle.std.specs.Borrow.{GName}
use Rattle.codespan_core.specs.Streams.{Stream, Spelling, spelled}

-- ---- the bytes that a writer has, where they are known

-- the bytes are known
unfoldable pub are_known : Option (List ℕ) → Bool
are_known contents = is_some contents

-- the bytes with these appended, where they are known
unfoldable pub extended : Option (List ℕ) → List ℕ → Option (List ℕ)
extended contents bs = append_known contents bs

-- the bytes with a prefix of these appended
pub record PrefixAppended (old : Option (List ℕ)) (bs : List ℕ) (new : Option (List ℕ))
    : Type 0 where
  pub prefix : List ℕ
  pub rest : List ℕ
  pub whole : prefix ++ rest ≡ bs
  pub contents : new ≡ extended old prefix

-- where the writer's bytes are known, these are appended, or, where the call fails, a prefix
abbrev pub AppendsBytes : {E : Type 0}
    → Option (List ℕ) → List ℕ → Result (Unit {0}) E → Option (List ℕ) → Type 0
AppendsBytes old bs r new =
    are_known old ≡ true
    → MatchResult r (λ _. new ≡ extended old bs) (λ _. PrefixAppended old bs new)

-- ---- a writer

-- all of a writer but its bytes
pub record Frame : Type 0 where
  -- the bytes of each style mark
  pub spelling : Spelling
  -- a style mark or a `put` failed, or a `put` of some bytes took none
  pub failed : Bool
  -- the names of the references that it writes through
  pub borrows : List GName

-- a writer, as a contract sees it; the bytes of some writers are not known
pub record Sink : Type 0 where
  pub frame : Frame
  pub contents : Option (List ℕ)

-- the writer's bytes are known
unfoldable pub is_known : Sink → Bool
is_known s = are_known s.contents

-- the frame once the writer has failed
abbrev pub failed_frame : Frame → Frame
failed_frame f = record f { failed = true }

-- the writer with the stream appended, its style marks spelled
unfoldable pub with_written : Sink → Stream → Sink
with_written s items = record s { contents = extended s.contents (spelled s.frame.spelling items) }

-- a prefix of the stream has been appended to the bytes of the writer
pub record PrefixWritten (s : Sink) (items : Stream) (t : Sink) : Type 0 where
  pub prefix : List ℕ
  pub rest : List ℕ
  pub whole : prefix ++ rest ≡ spelled s.frame.spelling items
  pub contents : t.contents ≡ extended s.contents prefix

-- of the frame a call changes whether the writer has failed, where it fails, and nothing else
abbrev pub KeepsFrame : {T E : Type 0} → Frame → Result T E → Frame → Type 0
KeepsFrame old r new = MatchResult r (λ _. new ≡ old) (λ _. new ≡ failed_frame old)

-- where the writer's bytes are known, the stream is appended, or, where the call fails, a prefix
abbrev pub WritesOrPrefix : {E : Type 0} → Sink → Stream → Result (Unit {0}) E → Sink
    → Type 0
WritesOrPrefix old items r new =
    is_known old ≡ true
    → MatchResult r (λ _. new ≡ with_written old items) (λ _. PrefixWritten old items new)

-- the call writes the stream
abbrev pub Writes : {E : Type 0} → Sink → Stream → Result (Unit {0}) E → Sink → Type 0
Writes old items r new = KeepsFrame old.frame r new.frame × WritesOrPrefix old items r new

-- the frame after a `put` that took n of these bytes; one that takes none of some has failed
abbrev pub after_put : Frame → List ℕ → ℕ → Frame
after_put f bs n = if n == 0 && nat_lt 0 (length bs) then failed_frame f else f

-- `put` takes as many of its first bytes as it returns, and none where it fails
abbrev pub Puts : {E : Type 0} → Sink → List ℕ → Result ℕ E → Sink → Type 0
Puts old bs r new =
    MatchResult r (λ n. new.frame ≡ after_put old.frame bs n)
    (λ _. new.frame ≡ failed_frame old.frame)
    × (is_known old ≡ true → MatchResult r
    (λ n. new.contents ≡ append_known old.contents (take n bs))
    (λ _. new.contents ≡ old.contents))

-- a writer of this frame, but for whether it has failed, and with these bytes
abbrev pub with_failed : Frame → Bool → Option (List ℕ) → Sink
with_failed f failed contents = record { frame = record f { failed = failed }; contents = contents }
