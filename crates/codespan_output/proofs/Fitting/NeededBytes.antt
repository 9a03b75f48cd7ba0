-- For `FittedIsLine`: what has to be shown of a line is kept, so the last byte of each label,
-- and the first one of each multi-line label that starts there.
use Rattle.codespan_core.proofs.Std.{◌⊎◌, inl, inr, ◌≡◌, ℕ, ◌+◌, ◌-◌, ◌<◌, ◌≤◌, Bool, true, false}
use Rattle.codespan_core.proofs.Std.{◌&&◌, nat_lt, nat_le, List, [], ◌∷◌, ◌++◌, sym, ap, subst, ◌∙◌}
use Rattle.codespan_core.proofs.Std.{arith, ⊎_elim, cases_lt, cond_both, lt-ltb, le-leb, ltb-true}
use Rattle.codespan_core.proofs.Std.{list_any-append, or_cases, and_parts, false≢true}
use Rattle.std.proofs.lemmas.Bool.{or_left, or_right, and_from, leb-true}
use Rattle.codespan_output.specs.{TextUnit, Piece, Kept, Needed, Gap, unit_bytes, is_needed}
use Rattle.codespan_output.specs.{parts_from, part_pieces, pieces_of, piece_units, is_kept}
use Rattle.codespan_output.specs.{or_line_start}
use Rattle.codespan_output.proofs.Fitting.Moved.{kept-in_unit, kept-after_unit}
use Rattle.codespan_output.proofs.Fitting.Pieces.{gap-units, kept-append, unit_bytes-append}

-- ---- spans

-- more bytes have a needed one where fewer have one
pub needed-wider : (spans : List (ℕ × ℕ)) (x start end : ℕ) → start ≤ x → x < end
    → is_needed spans x (x + 1) ≡ true → is_needed spans start end ≡ true
needed-wider [] x start end h k e = absurd (false≢true e)
needed-wider (s ∷ ss) x start end h k e =
    ⊎_elim
    (λ (a : (nat_lt s.0 (x + 1) && nat_le x s.1) ≡ true).
    let parts = and_parts (nat_lt s.0 (x + 1)) (nat_le x s.1) a in
    let first = ltb-true s.0 (x + 1) parts.0 in
    let last = leb-true x s.1 parts.1 in
    or_left (nat_lt s.0 end && nat_le start s.1) (is_needed ss start end)
    (and_from (nat_lt s.0 end) (nat_le start s.1) (lt-ltb s.0 end (omega arith))
    (le-leb start s.1 (omega arith))))
    (λ (a : is_needed ss x (x + 1) ≡ true).
    or_right (nat_lt s.0 end && nat_le start s.1) (is_needed ss start end)
    (needed-wider ss x start end h k a))
    (or_cases (nat_lt s.0 (x + 1) && nat_le x s.1) (is_needed ss x (x + 1)) e)

-- a byte of a span is needed
pub needed-in : (first last : ℕ) (ss : List (ℕ × ℕ)) (x : ℕ) → first ≤ x → x ≤ last
    → is_needed ((first, last) ∷ ss) x (x + 1) ≡ true
needed-in first last ss x h k =
    or_left (nat_lt first (x + 1) && nat_le x last) (is_needed ss x (x + 1))
    (and_from (nat_lt first (x + 1)) (nat_le x last) (lt-ltb first (x + 1) (omega arith))
    (le-leb x last k))

pub needed-before : (ss ts : List (ℕ × ℕ)) (x : ℕ) → is_needed ss x (x + 1) ≡ true
    → is_needed (ss ++ ts) x (x + 1) ≡ true
needed-before ss ts x h =
    list_any-append (λ (s : ℕ × ℕ). nat_lt s.0 (x + 1) && nat_le x s.1) ss ts
    ∙ or_left (is_needed ss x (x + 1)) (is_needed ts x (x + 1)) h

pub needed-behind : (ss ts : List (ℕ × ℕ)) (x : ℕ) → is_needed ts x (x + 1) ≡ true
    → is_needed (ss ++ ts) x (x + 1) ≡ true
needed-behind ss ts x h =
    list_any-append (λ (s : ℕ × ℕ). nat_lt s.0 (x + 1) && nat_le x s.1) ss ts
    ∙ or_right (is_needed ss x (x + 1)) (is_needed ts x (x + 1)) h

-- the start of the line is added only where nothing is needed
pub needed-or_start : (ss : List (ℕ × ℕ)) (x : ℕ) → is_needed ss x (x + 1) ≡ true
    → is_needed (or_line_start ss) x (x + 1) ≡ true
needed-or_start [] x h = absurd (false≢true h)
needed-or_start (s ∷ ss) x h = h

-- a byte that is needed is in the first span, or needed by the others
pub in-span : (low high : ℕ) (ss : List (ℕ × ℕ)) (y : ℕ)
    → is_needed ((low, high) ∷ ss) y (y + 1) ≡ true
    → ((low ≤ y) × (y ≤ high)) ⊎ (is_needed ss y (y + 1) ≡ true)
in-span low high ss y h =
    ⊎_elim
    (λ (a : (nat_lt low (y + 1) && nat_le y high) ≡ true).
    let parts = and_parts (nat_lt low (y + 1)) (nat_le y high) a in
    inl ((omega (arith, ltb-true low (y + 1) parts.0), leb-true y high parts.1)))
    (λ (a : is_needed ss y (y + 1) ≡ true). inr a)
    (or_cases (nat_lt low (y + 1) && nat_le y high) (is_needed ss y (y + 1)) h)

-- or by one of two lists
pub in-either : (ss ts : List (ℕ × ℕ)) (y : ℕ) → is_needed (ss ++ ts) y (y + 1) ≡ true
    → (is_needed ss y (y + 1) ≡ true) ⊎ (is_needed ts y (y + 1) ≡ true)
in-either ss ts y h =
    or_cases (is_needed ss y (y + 1)) (is_needed ts y (y + 1))
    (sym (list_any-append (λ (s : ℕ × ℕ). nat_lt s.0 (y + 1) && nat_le y s.1) ss ts) ∙ h)

-- ---- units

-- a needed byte is kept
pub needed-kept : (radius : ℕ) (spans : List (ℕ × ℕ)) (after : Bool) (gap : List TextUnit)
    (start : ℕ) (us : List TextUnit) (x : ℕ) → start ≤ x
    → is_needed spans x (x + 1) ≡ true
    → is_kept (pieces_of radius (parts_from spans after gap start us))
    (unit_bytes gap + (x - start)) ≡ true
needed-kept radius spans after gap start [] x h k =
    let ps = pieces_of radius (parts_from spans after gap start []) in
    let same : piece_units (part_pieces radius (Gap after false gap)) ≡ gap =
    gap-units radius after false gap in
    subst (λ us. is_kept ps (unit_bytes us + (x - start)) ≡ true) same
    (kept-append (part_pieces radius (Gap after false gap)) [] (x - start))
needed-kept radius spans after gap start (u ∷ us) x h k =
    cond_both (is_needed spans start (start + u.bytes))
    (Gap after true gap ∷ Needed u ∷ parts_from spans true [] (start + u.bytes) us)
    (parts_from spans after (gap ++ u ∷ []) (start + u.bytes) us)
    (λ parts. is_kept (pieces_of radius parts) (unit_bytes gap + (x - start)) ≡ true)
    (λ _. here (λ a. needed-kept radius spans true [] (start + u.bytes) us x a k))
    (λ out. later out
    (λ a. needed-kept radius spans after (gap ++ u ∷ []) (start + u.bytes) us x a k))
  where
    rest : List Piece
    rest = pieces_of radius (parts_from spans true [] (start + u.bytes) us)

    at_unit : (start + u.bytes ≤ x → is_kept rest (0 + (x - (start + u.bytes))) ≡ true)
        → is_kept (Kept u ∷ rest) (x - start) ≡ true
    at_unit again =
        ⊎_elim
        (λ (a : x - start < u.bytes). kept-in_unit u rest (x - start) a)
        (λ (a : u.bytes ≤ x - start). kept-after_unit u rest (x - start) a
        ∙ ap (is_kept rest) (omega arith)
        ∙ again (omega arith))
        (cases_lt (x - start) u.bytes)

    here : (start + u.bytes ≤ x → is_kept rest (0 + (x - (start + u.bytes))) ≡ true)
        → is_kept (part_pieces radius (Gap after true gap) ++ (Kept u ∷ rest))
        (unit_bytes gap + (x - start)) ≡ true
    here again =
        subst
        (λ vs. is_kept (part_pieces radius (Gap after true gap) ++ (Kept u ∷ rest))
        (unit_bytes vs + (x - start)) ≡ true)
        (gap-units radius after true gap)
        (kept-append (part_pieces radius (Gap after true gap)) (Kept u ∷ rest) (x - start)
        ∙ at_unit again)

    behind : List Piece
    behind = pieces_of radius (parts_from spans after (gap ++ u ∷ []) (start + u.bytes) us)

    later : is_needed spans start (start + u.bytes) ≡ false
        → (start + u.bytes ≤ x
        → is_kept behind (unit_bytes (gap ++ u ∷ []) + (x - (start + u.bytes))) ≡ true)
        → is_kept behind (unit_bytes gap + (x - start)) ≡ true
    later out again =
        ⊎_elim
        (λ (a : x < start + u.bytes). absurd (false≢true
        (sym out ∙ needed-wider spans x start (start + u.bytes) h a k)))
        (λ (a : start + u.bytes ≤ x).
        ap (is_kept behind) (omega (arith, unit_bytes-append gap (u ∷ []))) ∙ again a)
        (cases_lt x (start + u.bytes))
