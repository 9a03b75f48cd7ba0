-- What the laws of writers see of the writers of plain text, of any writer that has just been made,
-- and of a call that writes nothing.
use Rattle.std.specs.Prelude.{◌≡◌, ℕ, false, List, [], ◌∷◌, Option, Result, Ok}
use Rattle.std.specs.Borrow.{GName}
use Rattle.codespan_core.specs.declared.term.config.plain_ref.PlainWriterRef.{PlainWriterRef}
use Rattle.codespan_core.specs.declared.term.config.plain.PlainWriter.{PlainWriter}
use Rattle.codespan_core.specs.Streams.{Spelling, plain_spelling}
use Rattle.codespan_core.specs.WriterLaw.{Sink}

-- ---- calls that write nothing

-- the call succeeds, and the writer is unchanged
pub record WritesNothing {T E : Type 0} (old : T) (result : Result (Unit {0}) E) (new : T)
    : Type 0 where
  pub ok : result ≡ Ok tt
  pub same : new ≡ old

-- ---- writers of style marks that own the writer they write to

-- a writer of this spelling and these bytes that owns the writer it writes to, and has not failed
abbrev pub fresh_sink : Spelling → Option (List ℕ) → Sink
fresh_sink spelling contents = record {
  frame = record { spelling = spelling; failed = false; borrows = [] };
  contents = contents;
}

-- what a writer of plain text writes to
abbrev pub plain_inner : {W : Type 0} → PlainWriter W → W
plain_inner p = p.inner

-- a plain writer spells every style mark as nothing
abbrev pub plain_sink : {W : Type 0} → (W → Option (List ℕ)) → PlainWriter W → Sink
plain_sink contents p = record {
  frame = record { spelling = plain_spelling; failed = p.failed; borrows = [] };
  contents = contents p.inner;
}

-- ---- plain text over a borrowed writer

-- the borrowed writer
abbrev pub borrowed_writer : {W : Type 0} → PlainWriterRef W → W
borrowed_writer p = p.writer.now

-- the name of the reference by which it is borrowed
abbrev pub plain_reference : {W : Type 0} → PlainWriterRef W → GName
plain_reference p = p.writer.ghost_name

-- a plain writer that writes through the reference
abbrev pub plain_ref_sink : {W : Type 0} → (W → Option (List ℕ)) → PlainWriterRef W → Sink
plain_ref_sink contents p = record {
  frame = record {
    spelling = plain_spelling;
    failed = p.failed;
    borrows = plain_reference p ∷ [];
  };
  contents = contents (borrowed_writer p);
}

-- a plain writer over the reference of this name that has not failed
abbrev pub fresh_plain_ref_sink : GName → Option (List ℕ) → Sink
fresh_plain_ref_sink name contents = record {
  frame = record { spelling = plain_spelling; failed = false; borrows = name ∷ [] };
  contents = contents;
}
