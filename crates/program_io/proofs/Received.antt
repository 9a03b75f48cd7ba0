-- For the clauses `written` and `prefix` of the writing calls: what a writer has received, where
-- its bytes are known.
use Rattle.codespan_core.proofs.Std.{◌≡◌, ℕ, ◌-◌, List, [], ◌∷◌, ◌++◌, length}
use Rattle.codespan_core.proofs.Std.{take, drop, Option, Result, Ok, Err, OnOk, sym, ap, subst}
use Rattle.codespan_core.proofs.Std.{◌∙◌, append_assoc, take-append-drop, take-append_seam}
use Rattle.codespan_core.proofs.Std.{take_rest}
use Rattle.std.proofs.KnownBytes.{Appends-kept, Appends-trans}
use Rattle.std.specs.Io.{StartsWith}
use Rattle.std.specs.Io.KnownBytes.{Appends, Keeps}
use Rattle.program_io.specs.Output.{AppendsPrefix}

-- n more bytes of the rest were received
pub moved : (bs done rest : List ℕ) (n : ℕ) → bs ≡ done ++ rest
    → bs ≡ (done ++ take n rest) ++ drop n rest
moved bs done rest n e =
    e ∙ ap (λ (l : List ℕ). done ++ l) (sym (take-append-drop n rest))
    ∙ sym (append_assoc done (take n rest) (drop n rest))

-- the same, where the new rest is a range of the old one
pub moved_range : (bs done rest : List ℕ) (n : ℕ) → bs ≡ done ++ rest
    → bs ≡ (done ++ take n rest) ++ take (length rest - n) (drop n rest)
moved_range bs done rest n e =
    moved bs done rest n e
    ∙ ap (λ (l : List ℕ). (done ++ take n rest) ++ l) (sym (take_rest rest n))

-- a prefix was received, and known bytes are then unchanged
pub prefix_kept : (old mid new : Option (List ℕ)) (bs : List ℕ) → AppendsPrefix old mid bs
    → Keeps mid new → AppendsPrefix old new bs
prefix_kept old mid new bs received kept =
    (received.0, received.1, Appends-kept old mid new received.0 received.2 kept)

-- what was received is a prefix, whatever is left
pub prefix_received : (old new : Option (List ℕ)) (bs done rest : List ℕ)
    → bs ≡ done ++ rest
    → Appends old new done → AppendsPrefix old new bs
prefix_received old new bs done rest split received = (
  done,
  subst (λ (l : List ℕ). StartsWith l done) (sym split) (take-append_seam done rest),
  received,
)

-- what holds anyway, where a call succeeded
pub on_success : {T E X : Type 0} (r : Result T E) → X → OnOk r X
on_success (Ok x) fact = fact
on_success (Err e) fact = tt

-- a second part was received after the first, or a prefix of it
pub received_after : {T E : Type 0} (r : Result T E) (old mid new : Option (List ℕ))
    (first second : List ℕ)
    → Appends old mid first → OnOk r (Appends mid new second)
    → OnOk r (Appends old new (first ++ second))
received_after (Ok x) old mid new first second before after =
    Appends-trans old mid new first second before after
received_after (Err e) old mid new first second before after = tt

starts_after : (first second front : List ℕ) → StartsWith second front
    → StartsWith (first ++ second) (first ++ front)
starts_after [] second front starts = starts
starts_after (b ∷ first) second front starts =
    ap (λ (bs : List ℕ). b ∷ bs) (starts_after first second front starts)

pub prefix_after : (old mid new : Option (List ℕ)) (first second : List ℕ)
    → Appends old mid first
    → AppendsPrefix mid new second → AppendsPrefix old new (first ++ second)
prefix_after old mid new first second before after = (
  first
      ++ after.0,
  starts_after first second after.0 after.1,
  Appends-trans old mid new first after.0 before after.2,
)
