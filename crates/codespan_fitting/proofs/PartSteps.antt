-- For `refill_gaps`: the parts of units of which none, or each one, has to be shown.
use Rattle.codespan_core.proofs.Std.{◌≡◌, ℕ, ◌+◌, ◌≤◌, Bool, true, false, ◌||◌}
use Rattle.codespan_core.proofs.Std.{List, [], ◌∷◌, ◌++◌, refl, ap, ap₂, sym, ◌∙◌, subst}
use Rattle.codespan_core.proofs.Std.{arith, append_assoc, append-nil, list_any-append}
use Rattle.std.specs.Prelude.{⊤}
use Rattle.codespan_output.specs.FittedParts.{TextUnit, Part, Needed, Gap, is_needed, parts_from}
use Rattle.codespan_output.specs.FittedParts.{unit_bytes, unit_cells}
use Rattle.codespan_fitting.specs.Parts.{gaps_from, needed_cells}
use Rattle.codespan_fitting.proofs.NeededUnits.{has_byte}

-- ---- each of these units

-- what holds of the bytes from and to which each of these units goes, where the first is at `at`
abbrev pub Each : (ℕ → ℕ → Type 0) → ℕ → List TextUnit → Type 0
Each P at [] = ⊤
Each P at (u ∷ us) = P at (at + u.bytes) × Each P (at + u.bytes) us

-- none of these units has to be shown
abbrev pub NoneNeeded : List (ℕ × ℕ) → ℕ → List TextUnit → Type 0
NoneNeeded spans at us = Each (λ p q. is_needed spans p q ≡ false) at us

-- each of them has
abbrev pub AllNeeded : List (ℕ × ℕ) → ℕ → List TextUnit → Type 0
AllNeeded spans at us = Each (λ p q. is_needed spans p q ≡ true) at us

pub each-front : (P : ℕ → ℕ → Type 0) (at : ℕ) (us vs : List TextUnit)
    → Each P at (us ++ vs) → Each P at us
each-front P at [] vs h = tt
each-front P at (u ∷ us) vs h = (h.0, each-front P (at + u.bytes) us vs h.1)

pub each-back : (P : ℕ → ℕ → Type 0) (at end : ℕ) (us vs : List TextUnit)
    → at + unit_bytes us ≡ end
    → Each P at (us ++ vs) → Each P end vs
each-back P at end [] vs e h =
    let same : at ≡ end = omega (arith, e) in subst (λ n. Each P n vs) same h
each-back P at end (u ∷ us) vs e h = each-back P (at + u.bytes) end us vs (omega (arith, e)) h.1

pub each-both : (P Q R : ℕ → ℕ → Type 0) → ((p q : ℕ) → P p q → Q p q → R p q)
    → (at : ℕ) (us : List TextUnit) → Each P at us → Each Q at us → Each R at us
each-both P Q R both at [] h k = tt
each-both P Q R both at (u ∷ us) h k =
    (both at (at + u.bytes) h.0 k.0, each-both P Q R both (at + u.bytes) us h.1 k.1)

-- those among all units that are from one byte to another
pub each-among : (P : ℕ → ℕ → Type 0) (all : List TextUnit) (low high : ℕ)
    → ((xs : List TextUnit) (u : TextUnit) (ys : List TextUnit) → all ≡ xs ++ u ∷ ys
    → low ≤ unit_bytes xs
    → unit_bytes xs + u.bytes ≤ high → P (unit_bytes xs) (unit_bytes xs + u.bytes))
    → (xs us ys : List TextUnit) (at : ℕ) → all ≡ xs ++ (us ++ ys) → unit_bytes xs ≡ at
    → low ≤ at → at + unit_bytes us ≤ high → Each P at us
each-among P all low high holds xs [] ys at split is from to = tt
each-among P all low high holds xs (u ∷ us) ys at split is from to =
    let size = bytes-push xs u in (
      subst (λ n. P n (n + u.bytes)) is
          (holds xs u (us ++ ys) split (omega (arith, is, from)) (omega (arith, is, to))),
      each-among P all low high holds (xs ++ u ∷ []) us ys (at + u.bytes)
          (split ∙ sym (append_assoc xs (u ∷ []) (us ++ ys)))
          (omega (arith, size, is)) (omega (arith, from)) (omega (arith, to)),
    )
  where
    bytes-push : (xs : List TextUnit) (u : TextUnit)
        → unit_bytes (xs ++ u ∷ []) ≡ unit_bytes xs + u.bytes
    bytes-push [] u = omega arith
    bytes-push (x ∷ xs) u = omega (arith, bytes-push xs u)

-- ---- spans in two parts

pub needed-append : (xs ys : List (ℕ × ℕ)) (p q : ℕ)
    → is_needed (xs ++ ys) p q ≡ (is_needed xs p q || is_needed ys p q)
needed-append xs ys p q = list_any-append (λ (s : ℕ × ℕ). has_byte s p q) xs ys

pub none-append : (xs ys : List (ℕ × ℕ)) (p q : ℕ) → is_needed xs p q ≡ false
    → is_needed ys p q ≡ false
    → is_needed (xs ++ ys) p q ≡ false
none-append xs ys p q h k = needed-append xs ys p q ∙ rw (h, k) refl

-- ---- parts

-- units that need not be shown are added to the gap
pub none-parts : (spans : List (ℕ × ℕ)) (after : Bool) (gap : List TextUnit) (at end : ℕ)
    (us vs : List TextUnit)
    → at + unit_bytes us ≡ end → NoneNeeded spans at us
    → parts_from spans after gap at (us ++ vs) ≡ parts_from spans after (gap ++ us) end vs
none-parts spans after gap at end [] vs e h =
    let same : at ≡ end = omega (arith, e) in
    rw (same, append-nil gap) refl
none-parts spans after gap at end (u ∷ us) vs e h =
    rw h.0
    (none-parts spans after (gap ++ u ∷ []) (at + u.bytes) end us vs (omega (arith, e)) h.1
    ∙ ap (λ g. parts_from spans after g end vs) (append_assoc gap (u ∷ []) us))

-- a gap and the parts after it
gap-first : (after before : Bool) (at : ℕ) (us : List TextUnit) (ps : List Part)
    → gaps_from at (Gap after before us ∷ ps)
    ≡ gaps_from at (Gap after before us ∷ []) ++ gaps_from (at + unit_bytes us) ps
gap-first after before at [] ps = ap (λ n. gaps_from n ps) (omega arith)
gap-first after before at (u ∷ us) ps = refl

-- units that have to be shown end the gap before them
pub all-gaps : (spans : List (ℕ × ℕ)) (after : Bool) (gap : List TextUnit) (at start end : ℕ)
    (u : TextUnit) (us vs : List TextUnit)
    → at + unit_bytes gap ≡ start → start + unit_bytes (u ∷ us) ≡ end
    → AllNeeded spans start (u ∷ us)
    → gaps_from at (parts_from spans after gap start ((u ∷ us) ++ vs))
    ≡ gaps_from at (Gap after true gap ∷ []) ++ gaps_from end (parts_from spans true [] end vs)
all-gaps spans after gap at start end u [] vs e to h =
    let last : start + u.bytes ≡ end = omega (arith, to) in
    let past : at + unit_bytes gap + u.bytes ≡ end = omega (arith, e, to) in
    rw h.0
    (gap-first after true at gap
    (Needed u ∷ parts_from spans true [] (start + u.bytes) vs)
    ∙ ap₂ (λ m n. gaps_from at (Gap after true gap ∷ [])
    ++ gaps_from m (parts_from spans true [] n vs))
    past last)
all-gaps spans after gap at start end u (v ∷ us) vs e to h =
    rw h.0
    (gap-first after true at gap
    (Needed u ∷ parts_from spans true [] (start + u.bytes) ((v ∷ us) ++ vs))
    ∙ ap (λ n. gaps_from at (Gap after true gap ∷ [])
    ++ gaps_from (n + u.bytes)
    (parts_from spans true [] (start + u.bytes) ((v ∷ us) ++ vs)))
    e
    ∙ ap (λ gs. gaps_from at (Gap after true gap ∷ []) ++ gs)
    (all-gaps spans true [] (start + u.bytes) (start + u.bytes) end v us vs (omega arith)
    (omega (arith, to)) h.1))

pub all-cells : (spans : List (ℕ × ℕ)) (after : Bool) (gap : List TextUnit) (start end : ℕ)
    (u : TextUnit) (us vs : List TextUnit)
    → start + unit_bytes (u ∷ us) ≡ end → AllNeeded spans start (u ∷ us)
    → needed_cells (parts_from spans after gap start ((u ∷ us) ++ vs))
    ≡ unit_cells (u ∷ us) + needed_cells (parts_from spans true [] end vs)
all-cells spans after gap start end u [] vs to h =
    let last : start + u.bytes ≡ end = omega (arith, to) in
    rw (h.0, last) (omega arith)
all-cells spans after gap start end u (v ∷ us) vs to h =
    rw h.0
    (omega (arith, all-cells spans true [] (start + u.bytes) end v us vs (omega (arith, to)) h.1))
