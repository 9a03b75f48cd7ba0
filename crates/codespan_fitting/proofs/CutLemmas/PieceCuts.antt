-- For `refill_cuts`: the cuts of the pieces of a gap, by the bytes that are left out of it.
use Rattle.codespan_core.proofs.Std.{◌≡◌, ℕ, ◌+◌, ◌-◌, ◌≤◌, Bool}
use Rattle.codespan_core.proofs.Std.{List, [], ◌∷◌, ◌++◌, take, drop, map}
use Rattle.codespan_core.proofs.Std.{refl, ap, ap₂, ◌∙◌, arith, ⊎_elim, cases_lt}
use Rattle.codespan_core.proofs.Std.{take-append-drop}
use Rattle.codespan_output.specs.FittedParts.{TextUnit, Piece, Kept, Dots, Gap, leave_out}
use Rattle.codespan_output.specs.FittedParts.{part_pieces, unit_bytes}
use Rattle.codespan_fitting.specs.LeftOut.{dot_ranges}
use Rattle.codespan_fitting.specs.Cuts.{CutModel, cuts_from}
use Rattle.codespan_fitting.specs.Walks.{first_count, last_count}
use Rattle.codespan_fitting.proofs.GapPieces.{few-pieces, more-pieces}

-- ---- the bytes of pieces

-- in the text
abbrev pub piece_bytes : List Piece → ℕ
piece_bytes [] = 0
piece_bytes (Kept u ∷ ps) = u.bytes + piece_bytes ps
piece_bytes (Dots us ∷ ps) = unit_bytes us + piece_bytes ps

-- in the text that is shown
abbrev pub shown_bytes : List Piece → ℕ
shown_bytes [] = 0
shown_bytes (Kept u ∷ ps) = u.bytes + shown_bytes ps
shown_bytes (Dots us ∷ ps) = 3 + shown_bytes ps

-- the cuts of pieces, and then those of more
pub cuts-append : (at shown : ℕ) (ps qs : List Piece)
    → cuts_from at shown (ps ++ qs)
    ≡ cuts_from at shown ps ++ cuts_from (at + piece_bytes ps) (shown + shown_bytes ps) qs
cuts-append at shown [] qs =
    ap₂ (λ m n. cuts_from m n qs) (omega arith) (omega arith)
cuts-append at shown (Kept u ∷ ps) qs =
    cuts-append (at + u.bytes) (shown + u.bytes) ps qs
    ∙ ap₂ (λ m n. cuts_from (at + u.bytes) (shown + u.bytes) ps ++ cuts_from m n qs) (omega arith)
    (omega arith)
cuts-append at shown (Dots us ∷ ps) qs =
    let cut : CutModel = record { start = at; end = at + unit_bytes us; dots = shown } in
    ap (λ cs. cut ∷ cs)
    (cuts-append (at + unit_bytes us) (shown + 3) ps qs
    ∙ ap₂ (λ m n. cuts_from (at + unit_bytes us) (shown + 3) ps ++ cuts_from m n qs) (omega arith)
    (omega arith))

-- ---- the pieces of a gap have its bytes

pub unit_bytes-append : (us vs : List TextUnit)
    → unit_bytes (us ++ vs) ≡ unit_bytes us + unit_bytes vs
unit_bytes-append [] vs = omega arith
unit_bytes-append (u ∷ us) vs = omega (arith, unit_bytes-append us vs)

kept-bytes : (us : List TextUnit) (ps : List Piece)
    → piece_bytes (map Kept us ++ ps) ≡ unit_bytes us + piece_bytes ps
kept-bytes [] ps = omega arith
kept-bytes (u ∷ us) ps = omega (arith, kept-bytes us ps)

all-bytes : (us : List TextUnit) → piece_bytes (map Kept us) ≡ unit_bytes us
all-bytes [] = refl
all-bytes (u ∷ us) = omega (arith, all-bytes us)

leave-bytes : (f e : ℕ) (us : List TextUnit) → piece_bytes (leave_out f e us) ≡ unit_bytes us
leave-bytes f e us =
    ⊎_elim
    (λ more.
    let n = e - f in
    let left = take n (drop f us) in
    let rest = drop n (drop f us) in
    let end : e ≡ f + n = omega (arith, more) in
    let all : take f us ++ (left ++ rest) ≡ us =
    ap (λ vs. take f us ++ vs) (take-append-drop n (drop f us)) ∙ take-append-drop f us in
    omega (
      arith,
      ap piece_bytes (more-pieces us f e n end (omega (arith, more))),
      kept-bytes (take f us) (Dots left ∷ map Kept rest),
      all-bytes rest,
      ap unit_bytes all,
      unit_bytes-append (take f us) (left ++ rest),
      unit_bytes-append left rest,
    ))
    (λ few.
    let pieces = few-pieces us f e 3 few (omega arith) in ap piece_bytes pieces ∙ all-bytes us)
    (cases_lt (f + 3) e)

pub gap-bytes : (r : ℕ) (after before : Bool) (us : List TextUnit)
    → piece_bytes (part_pieces r (Gap after before us)) ≡ unit_bytes us
gap-bytes r after before us =
    leave-bytes (first_count after r us) (last_count before r us) us

-- ---- by the bytes that are left out

-- where none is
pub no-cuts : (at shown n : ℕ) (ps : List Piece) → dot_ranges n ps ≡ []
    → (cuts_from at shown ps ≡ []) × (shown_bytes ps ≡ piece_bytes ps)
no-cuts at shown n [] none = (refl, refl)
no-cuts at shown n (Kept u ∷ ps) none =
    let rest = no-cuts (at + u.bytes) (shown + u.bytes) (n + u.bytes) ps none in
    (rest.0, omega (arith, rest.1))
no-cuts at shown n (Dots us ∷ ps) none = absurd (cc)

-- where those from one byte to before another are
pub record IsOneCut (at shown n : ℕ) (ps : List Piece) (start end : ℕ) : Type 0 where
  pub low : n ≤ start
  pub order : start ≤ end
  pub cut : cuts_from at shown ps
      ≡ record { start = at + (start - n); end = at + (end - n); dots = shown + (start - n) } ∷ []
  pub bytes : shown_bytes ps + (end - start) ≡ piece_bytes ps + 3

pub one-cut : (at shown n : ℕ) (ps : List Piece) (start end : ℕ)
    → dot_ranges n ps ≡ (start, end) ∷ [] → IsOneCut at shown n ps start end
one-cut at shown n [] start end one = absurd (cc)
one-cut at shown n (Kept u ∷ ps) start end one =
    let rest = one-cut (at + u.bytes) (shown + u.bytes) (n + u.bytes) ps start end one in
    let first : at + u.bytes + (start - (n + u.bytes)) ≡ at + (start - n) =
    omega (arith, rest.low) in
    let last : at + u.bytes + (end - (n + u.bytes)) ≡ at + (end - n) =
    omega (arith, rest.low, rest.order) in
    let dots : shown + u.bytes + (start - (n + u.bytes)) ≡ shown + (start - n) =
    omega (arith, rest.low) in
    record {
      low = omega (arith, rest.low);
      order = rest.order;
      cut = rest.cut ∙ rw (first, last, dots) refl;
      bytes = omega (arith, rest.bytes);
    }
one-cut at shown n (Dots us ∷ ps) start end one =
    let range : ◌≡◌ {A = ℕ × ℕ} (n, n + unit_bytes us) (start, end) = cc in
    let first : n ≡ start = ap (λ (x : ℕ × ℕ). x.0) range in
    let last : n + unit_bytes us ≡ end = ap (λ (x : ℕ × ℕ). x.1) range in
    let tail : dot_ranges (n + unit_bytes us) ps ≡ [] = cc in
    let rest = no-cuts (at + unit_bytes us) (shown + 3) (n + unit_bytes us) ps tail in
    let none : start - n ≡ 0 = omega (arith, first) in
    let size : end - n ≡ unit_bytes us = omega (arith, last) in
    let here : at + 0 ≡ at = omega arith in
    let there : shown + 0 ≡ shown = omega arith in
    record {
      low = omega (arith, first);
      order = omega (arith, first, last);
      cut = rw (none, size, here, there, rest.0) refl;
      bytes = omega (arith, first, last, rest.1);
    }
