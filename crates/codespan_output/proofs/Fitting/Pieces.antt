-- For `FittedIsLine`: the pieces of a line are its units, and dots stand for more than three
-- of them.
use Rattle.codespan_core.proofs.Std.{◌≡◌, ℕ, suc, ◌+◌, ◌<◌, ◌≤◌, Bool, true, false, nat_lt, nat_le}
use Rattle.codespan_core.proofs.Std.{List, [], ◌∷◌, ◌++◌, length, map, take, drop, refl, sym, ap}
use Rattle.codespan_core.proofs.Std.{ap₂, subst, ◌∙◌, arith, cond_both, ltb-true, append_assoc}
use Rattle.codespan_core.proofs.Std.{append-nil, take-append-drop, if◌then◌else◌, AllByRecursion}
use Rattle.codespan_core.proofs.Std.{length-drop, len_utf8, len_utf8_bounds, ◌==◌}
use Rattle.std.proofs.lemmas.List.{take-take, length-take}
use Rattle.codespan_output.specs.{DotsAreMany, TextUnit, Piece, Kept, Dots, Needed, Gap, unit_bytes}
use Rattle.codespan_output.specs.{units_of, with_char, cells_at_most, unit_cells, is_needed}
use Rattle.codespan_output.specs.{parts_from, count_within, count_before, leave_out, part_pieces}
use Rattle.codespan_output.specs.{pieces_of, piece_units, is_kept}
use Rattle.codespan_output.proofs.Fitting.Moved.{DotsShorten, kept-after_unit, kept-after_dots}

-- ---- the units of pieces

pub unit_bytes-append : (xs ys : List TextUnit)
    → unit_bytes (xs ++ ys) ≡ unit_bytes xs + unit_bytes ys
unit_bytes-append [] ys = omega arith
unit_bytes-append (x ∷ xs) ys = omega (arith, unit_bytes-append xs ys)

pub piece_units-append : (ps qs : List Piece)
    → piece_units (ps ++ qs) ≡ piece_units ps ++ piece_units qs
piece_units-append [] qs = refl
piece_units-append (Kept u ∷ ps) qs = ap (λ us. u ∷ us) (piece_units-append ps qs)
piece_units-append (Dots us ∷ ps) qs =
    ap (λ vs. us ++ vs) (piece_units-append ps qs)
    ∙ sym (append_assoc us (piece_units ps) (piece_units qs))

kept_units : (us : List TextUnit) → piece_units (map Kept us) ≡ us
kept_units [] = refl
kept_units (u ∷ us) = ap (λ vs. u ∷ vs) (kept_units us)

-- of a gap nothing is lost
pub leave_out-units : (first end : ℕ) (us : List TextUnit)
    → piece_units (leave_out first end us) ≡ us
leave_out-units first end us =
    cond_both (nat_lt (first + 3) end)
    (map Kept (take first us) ++ Dots (drop first (take end us)) ∷ map Kept (drop end us))
    (map Kept us) (λ ps. piece_units ps ≡ us)
    (λ h. let le : first ≤ end = omega (arith, ltb-true (first + 3) end h) in
    piece_units-append (map Kept (take first us))
    (Dots (drop first (take end us)) ∷ map Kept (drop end us))
    ∙ ap₂ (λ vs ws. vs ++ (drop first (take end us) ++ ws)) (kept_units (take first us))
    (kept_units (drop end us))
    ∙ ap (λ vs. vs ++ (drop first (take end us) ++ drop end us))
    (sym (take-take first end us le))
    ∙ sym (append_assoc (take first (take end us)) (drop first (take end us)) (drop end us))
    ∙ ap (λ vs. vs ++ drop end us) (take-append-drop first (take end us))
    ∙ take-append-drop end us)
    (λ _. kept_units us)

pub gap-units : (radius : ℕ) (after before : Bool) (us : List TextUnit)
    → piece_units (part_pieces radius (Gap after before us)) ≡ us
gap-units radius after before us =
    leave_out-units (if after then count_within radius us else 0)
    (if before then count_before radius us else length us) us

-- of a line nothing is lost
pub pieces-units : (radius : ℕ) (spans : List (ℕ × ℕ)) (after : Bool) (gap : List TextUnit)
    (start : ℕ) (us : List TextUnit)
    → piece_units (pieces_of radius (parts_from spans after gap start us)) ≡ gap ++ us
pieces-units radius spans after gap start [] =
    piece_units-append (part_pieces radius (Gap after false gap)) []
    ∙ ap (λ vs. vs ++ []) (gap-units radius after false gap)
pieces-units radius spans after gap start (u ∷ us) =
    cond_both (is_needed spans start (start + u.bytes))
    (Gap after true gap ∷ Needed u ∷ parts_from spans true [] (start + u.bytes) us)
    (parts_from spans after (gap ++ u ∷ []) (start + u.bytes) us)
    (λ parts. piece_units (pieces_of radius parts) ≡ gap ++ u ∷ us)
    (λ _. piece_units-append (part_pieces radius (Gap after true gap))
    (Kept u ∷ pieces_of radius (parts_from spans true [] (start + u.bytes) us))
    ∙ ap₂ (λ vs ws. vs ++ (u ∷ ws)) (gap-units radius after true gap)
    (pieces-units radius spans true [] (start + u.bytes) us))
    (λ _. pieces-units radius spans after (gap ++ u ∷ []) (start + u.bytes) us
    ∙ append_assoc gap (u ∷ []) us)

-- ---- what is kept

-- behind these pieces the others say what is kept
pub kept-append : (ps qs : List Piece) (x : ℕ)
    → is_kept (ps ++ qs) (unit_bytes (piece_units ps) + x) ≡ is_kept qs x
kept-append [] qs x = ap (is_kept qs) (omega arith)
kept-append (Kept u ∷ ps) qs x =
    let bytes = unit_bytes (piece_units ps) in
    kept-after_unit u (ps ++ qs) (u.bytes + bytes + x) (omega arith)
    ∙ ap (is_kept (ps ++ qs)) (omega arith)
    ∙ kept-append ps qs x
kept-append (Dots us ∷ ps) qs x =
    let split = unit_bytes-append us (piece_units ps) in
    let bytes = unit_bytes (piece_units ps) in
    ap (λ n. is_kept (Dots us ∷ ps ++ qs) (n + x)) split
    ∙ kept-after_dots us (ps ++ qs) (unit_bytes us + bytes + x) (omega arith)
    ∙ ap (is_kept (ps ++ qs)) (omega arith)
    ∙ kept-append ps qs x

-- past all pieces everything is
pub kept-past : (ps : List Piece) (x : ℕ) → is_kept ps (unit_bytes (piece_units ps) + x) ≡ true
kept-past ps x =
    subst (λ qs. is_kept qs (unit_bytes (piece_units ps) + x) ≡ true) (append-nil ps)
    (kept-append ps [] x)

-- ---- how much dots stand for

-- each unit has a byte
abbrev pub HaveBytes : List TextUnit → Type 0
HaveBytes us = AllByRecursion (λ (u : TextUnit). 0 < u.bytes) us

units-bytes : (us : List TextUnit) → HaveBytes us → length us ≤ unit_bytes us
units-bytes [] h = omega arith
units-bytes (u ∷ us) h = omega (arith, h.0, units-bytes us h.1)

pub count_before-le : (cells : ℕ) (us : List TextUnit) → count_before cells us ≤ length us
count_before-le cells [] = omega arith
count_before-le cells (u ∷ us) =
    cond_both (nat_le (unit_cells (u ∷ us)) cells) 0 (suc (count_before cells us))
    (λ n. n ≤ length (u ∷ us)) (λ _. omega arith)
    (λ _. omega (arith, count_before-le cells us))

many-append : (ps qs : List Piece) → DotsAreMany ps → DotsAreMany qs → DotsAreMany (ps ++ qs)
many-append [] qs h k = k
many-append (Kept u ∷ ps) qs h k = many-append ps qs h k
many-append (Dots us ∷ ps) qs h k = (h.0, many-append ps qs h.1 k)

many-kept : (us : List TextUnit) → DotsAreMany (map Kept us)
many-kept [] = tt
many-kept (u ∷ us) = many-kept us

many-leave_out : (first end : ℕ) (us : List TextUnit) → end ≤ length us
    → DotsAreMany (leave_out first end us)
many-leave_out first end us le =
    cond_both (nat_lt (first + 3) end)
    (map Kept (take first us) ++ Dots (drop first (take end us)) ∷ map Kept (drop end us))
    (map Kept us) DotsAreMany
    (λ h. many-append (map Kept (take first us))
    (Dots (drop first (take end us)) ∷ map Kept (drop end us)) (many-kept (take first us))
    ((
      omega (
        arith,
        ltb-true (first + 3) end h,
        length-drop first (take end us),
        length-take end us,
      ),
      many-kept (drop end us),
    )))
    (λ _. many-kept us)

many-gap : (radius : ℕ) (after before : Bool) (us : List TextUnit)
    → DotsAreMany (part_pieces radius (Gap after before us))
many-gap radius after true us =
    many-leave_out (if after then count_within radius us else 0) (count_before radius us) us
    (count_before-le radius us)
many-gap radius after false us =
    many-leave_out (if after then count_within radius us else 0) (length us) us (omega arith)

pub many-pieces : (radius : ℕ) (spans : List (ℕ × ℕ)) (after : Bool) (gap : List TextUnit)
    (start : ℕ) (us : List TextUnit)
    → DotsAreMany (pieces_of radius (parts_from spans after gap start us))
many-pieces radius spans after gap start [] =
    many-append (part_pieces radius (Gap after false gap)) [] (many-gap radius after false gap) tt
many-pieces radius spans after gap start (u ∷ us) =
    cond_both (is_needed spans start (start + u.bytes))
    (Gap after true gap ∷ Needed u ∷ parts_from spans true [] (start + u.bytes) us)
    (parts_from spans after (gap ++ u ∷ []) (start + u.bytes) us)
    (λ parts. DotsAreMany (pieces_of radius parts))
    (λ _. many-append (part_pieces radius (Gap after true gap))
    (Kept u ∷ pieces_of radius (parts_from spans true [] (start + u.bytes) us))
    (many-gap radius after true gap)
    (many-pieces radius spans true [] (start + u.bytes) us))
    (λ _. many-pieces radius spans after (gap ++ u ∷ []) (start + u.bytes) us)

bytes-parts : (us vs : List TextUnit) → HaveBytes (us ++ vs) → HaveBytes us × HaveBytes vs
bytes-parts [] vs h = (tt, h)
bytes-parts (u ∷ us) vs h = let rest = bytes-parts us vs h.1 in ((h.0, rest.0), rest.1)

-- so for more bytes than they have
pub many-shorten : (ps : List Piece) → HaveBytes (piece_units ps) → DotsAreMany ps
    → DotsShorten ps
many-shorten [] h k = tt
many-shorten (Kept u ∷ ps) h k = many-shorten ps h.1 k
many-shorten (Dots us ∷ ps) h k =
    let parts = bytes-parts us (piece_units ps) h in
    (omega (arith, k.0, units-bytes us parts.0), many-shorten ps parts.1 k.1)

-- ---- the units of a text

with_char-bytes : (tab c : ℕ) (us : List TextUnit) → HaveBytes us → HaveBytes (with_char tab c us)
with_char-bytes tab c [] h = ((len_utf8_bounds c).0, tt)
with_char-bytes tab c (u ∷ us) h =
    cond_both (u.cells == 0)
    (record { bytes = len_utf8 c + u.bytes; cells = cells_at_most tab c } ∷ us)
    (record { bytes = len_utf8 c; cells = cells_at_most tab c } ∷ u ∷ us) HaveBytes
    (λ _. (omega (arith, h.0), h.1)) (λ _. ((len_utf8_bounds c).0, h))

pub units-have_bytes : (tab : ℕ) (cs : List ℕ) → HaveBytes (units_of tab cs)
units-have_bytes tab [] = tt
units-have_bytes tab (c ∷ cs) = with_char-bytes tab c (units_of tab cs) (units-have_bytes tab cs)
