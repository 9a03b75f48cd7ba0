-- For `WiderRadiusHasMoreCells`: the cells of a gap at two radii.
use Rattle.codespan_core.proofs.Std.{◌≡◌, ℕ, zero, suc, ◌+◌, ◌-◌, ◌<◌, ◌≤◌, Bool}
use Rattle.codespan_core.proofs.Std.{true, false, List, [], ◌∷◌, ◌++◌, length, take, drop}
use Rattle.codespan_core.proofs.Std.{map, refl, ap, sym, ◌∙◌, subst, arith, le-leb, lt-leb}
use Rattle.codespan_core.proofs.Std.{le-ltb, lt-ltb, ⊎_elim, cases_eq, cases_lt, eq-eqb, ne_eqb}
use Rattle.codespan_core.proofs.Std.{length-drop, length-take-le, drop-drop, take-append-drop}
use Rattle.std.specs.Prelude.{⊤}
use Rattle.codespan_output.specs.FittedParts.{TextUnit, Piece, Kept, Dots, Gap, count_before}
use Rattle.codespan_output.specs.FittedParts.{count_within, leave_out, part_pieces, piece_cells}
use Rattle.codespan_output.specs.FittedParts.{unit_cells, units_of, with_char}

-- ---- units with cells

-- each of these units has cells
abbrev pub HaveCells : List TextUnit → Type 0
HaveCells [] = ⊤
HaveCells (u ∷ us) = (0 < u.cells) × HaveCells us

-- each but the first one has
abbrev pub RestHasCells : List TextUnit → Type 0
RestHasCells [] = ⊤
RestHasCells (u ∷ us) = HaveCells us

pub rest-have : (us : List TextUnit) → HaveCells us → RestHasCells us
rest-have [] h = tt
rest-have (u ∷ us) h = h.1

have-parts : (us vs : List TextUnit) → HaveCells (us ++ vs) → HaveCells us × HaveCells vs
have-parts [] vs h = (tt, h)
have-parts (u ∷ us) vs h = let parts = have-parts us vs h.1 in ((h.0, parts.0), parts.1)

pub rest-parts : (us vs : List TextUnit) → RestHasCells (us ++ vs)
    → RestHasCells us × RestHasCells vs
rest-parts [] vs h = (tt, h)
rest-parts (u ∷ us) vs h = let parts = have-parts us vs h in (parts.0, rest-have vs parts.1)

-- only the first unit of a text can have none
with-rest : (tab c : ℕ) (us : List TextUnit) → RestHasCells us
    → RestHasCells (with_char tab c us)
with-rest tab c [] h = tt
with-rest tab c (u ∷ us) h =
    ⊎_elim
    (λ none. rw (eq-eqb u.cells 0 none) h)
    (λ some. rw (ne_eqb u.cells 0 some) (omega (arith, some), h))
    (cases_eq u.cells 0)

pub units-rest : (tab : ℕ) (cs : List ℕ) → RestHasCells (units_of tab cs)
units-rest tab [] = tt
units-rest tab (c ∷ cs) = with-rest tab c (units_of tab cs) (units-rest tab cs)

-- so units are at most one more than their cells
have-count : (us : List TextUnit) → HaveCells us → length us ≤ unit_cells us
have-count [] h = omega arith
have-count (u ∷ us) h = omega (arith, h.0, have-count us h.1)

rest-count : (us : List TextUnit) → RestHasCells us → length us ≤ 1 + unit_cells us
rest-count [] h = omega arith
rest-count (u ∷ us) h = omega (arith, have-count us h)

-- ---- sums of cells

pub unit_cells-append : (us vs : List TextUnit)
    → unit_cells (us ++ vs) ≡ unit_cells us + unit_cells vs
unit_cells-append [] vs = omega arith
unit_cells-append (u ∷ us) vs = omega (arith, unit_cells-append us vs)

pub kept-cells : (us : List TextUnit) (ps : List Piece)
    → piece_cells (map Kept us ++ ps) ≡ unit_cells us + piece_cells ps
kept-cells [] ps = omega arith
kept-cells (u ∷ us) ps = omega (arith, kept-cells us ps)

all-kept : (us : List TextUnit) → piece_cells (map Kept us) ≡ unit_cells us
all-kept [] = refl
all-kept (u ∷ us) = omega (arith, all-kept us)

take-wider : (f g : ℕ) (us : List TextUnit) → f ≤ g
    → unit_cells (take f us) ≤ unit_cells (take g us)
take-wider zero g us h = omega arith
take-wider (suc f) zero us h = absurd (omega (arith, h))
take-wider (suc f) (suc g) [] h = omega arith
take-wider (suc f) (suc g) (u ∷ us) h = omega (arith, take-wider f g us (omega (arith, h)))

pub drop-all-cells : (e : ℕ) (us : List TextUnit) → unit_cells (drop e us) ≤ unit_cells us
drop-all-cells zero us = omega arith
drop-all-cells (suc e) [] = omega arith
drop-all-cells (suc e) (u ∷ us) = omega (arith, drop-all-cells e us)

drop-wider : (d e : ℕ) (us : List TextUnit) → d ≤ e
    → unit_cells (drop e us) ≤ unit_cells (drop d us)
drop-wider zero e us h = drop-all-cells e us
drop-wider (suc d) zero us h = absurd (omega (arith, h))
drop-wider (suc d) (suc e) [] h = omega arith
drop-wider (suc d) (suc e) (u ∷ us) h = drop-wider d e us (omega (arith, h))

-- ---- more units are kept

within-wider : (r s : ℕ) (us : List TextUnit) → r ≤ s → count_within r us ≤ count_within s us
within-wider r s [] h = omega arith
within-wider r s (u ∷ us) h =
    ⊎_elim
    (λ more. rw (lt-leb u.cells r more) (omega arith))
    (λ fits.
    rw (le-leb u.cells r fits, le-leb u.cells s (omega (arith, fits, h)))
    (omega (arith, within-wider (r - u.cells) (s - u.cells) us (omega (arith, h)))))
    (cases_lt r u.cells)

before-wider : (r s : ℕ) (us : List TextUnit) → r ≤ s → count_before s us ≤ count_before r us
before-wider r s [] h = omega arith
before-wider r s (u ∷ us) h =
    ⊎_elim
    (λ more.
    let also : r < unit_cells (u ∷ us) = omega (arith, more, h) in
    rw (lt-leb (unit_cells (u ∷ us)) s more, lt-leb (unit_cells (u ∷ us)) r also)
    (omega (arith, before-wider r s us h)))
    (λ fits. rw (le-leb (unit_cells (u ∷ us)) s fits) (omega arith))
    (cases_lt s (unit_cells (u ∷ us)))

pub before-length : (r : ℕ) (us : List TextUnit) → count_before r us ≤ length us
before-length r [] = omega arith
before-length r (u ∷ us) =
    ⊎_elim
    (λ more. rw (lt-leb (unit_cells (u ∷ us)) r more) (omega (arith, before-length r us)))
    (λ fits. rw (le-leb (unit_cells (u ∷ us)) r fits) (omega arith))
    (cases_lt r (unit_cells (u ∷ us)))

-- ---- the cells of a gap

-- where some units are left out
cells-more : (f e : ℕ) (us : List TextUnit) → f + 3 < e
    → piece_cells (leave_out f e us) ≡ unit_cells (take f us) + 3 + unit_cells (drop e us)
cells-more f e us more =
    let rest : List Piece = Dots (drop f (take e us)) ∷ map Kept (drop e us) in
    rw (lt-ltb (f + 3) e more)
    (omega (arith, kept-cells (take f us) rest, all-kept (drop e us)))

-- where none is
cells-few : (f e : ℕ) (us : List TextUnit) → e ≤ f + 3
    → piece_cells (leave_out f e us) ≡ unit_cells us
cells-few f e us few = rw (le-ltb (f + 3) e few) (all-kept us)

-- those that are left out have the cells of the dots or more
left-cells : (f e : ℕ) (us : List TextUnit) → RestHasCells us → f + 3 < e → e ≤ length us
    → unit_cells (take f us) + 3 + unit_cells (drop e us) ≤ unit_cells us
left-cells f e us h more within =
    let n = e - f in
    let end : f + n ≡ e = omega (arith, more) in
    let left = take n (drop f us) in
    let rest = drop n (drop f us) in
    let inner : left ++ rest ≡ drop f us = take-append-drop n (drop f us) in
    let outer : take f us ++ (left ++ rest) ≡ us =
    ap (λ vs. take f us ++ vs) inner ∙ take-append-drop f us in
    let have : RestHasCells (take f us ++ (left ++ rest)) = subst RestHasCells (sym outer) h in
    let some = rest-count left (rest-parts left rest
    (rest-parts (take f us) (left ++ rest) have).1).0 in
    let size : length left ≡ n =
    length-take-le n (drop f us) (omega (arith, length-drop f us, within)) in
    let last : unit_cells rest ≡ unit_cells (drop e us) =
    ap unit_cells (drop-drop n f us ∙ ap (λ k. drop k us) end) in
    omega (
      arith,
      some,
      size,
      more,
      last,
      ap unit_cells outer,
      unit_cells-append (take f us) (left ++ rest),
      unit_cells-append left rest,
    )

-- where fewer are left out, it has no fewer cells
leave-wider : (f g d e : ℕ) (us : List TextUnit) → RestHasCells us → f ≤ g → d ≤ e
    → e ≤ length us → piece_cells (leave_out f e us) ≤ piece_cells (leave_out g d us)
leave-wider f g d e us h first last within =
    ⊎_elim
    (λ more.
    ⊎_elim
    (λ again.
    omega (
      arith,
      cells-more f e us more,
      cells-more g d us again,
      take-wider f g us first,
      drop-wider d e us last,
    ))
    (λ few.
    omega (
      arith,
      cells-more f e us more,
      cells-few g d us few,
      left-cells f e us h more within,
    ))
    (cases_lt (g + 3) d))
    (λ few.
    omega (arith, cells-few f e us few, cells-few g d us (omega (arith, few, first, last))))
    (cases_lt (f + 3) e)

pub gap-wider : (r s : ℕ) (after before : Bool) (us : List TextUnit) → r ≤ s → RestHasCells us
    → piece_cells (part_pieces r (Gap after before us))
    ≤ piece_cells (part_pieces s (Gap after before us))
gap-wider r s true true us h rest =
    leave-wider (count_within r us) (count_within s us) (count_before s us) (count_before r us) us
    rest (within-wider r s us h) (before-wider r s us h) (before-length r us)
gap-wider r s true false us h rest =
    leave-wider (count_within r us) (count_within s us) (length us) (length us) us rest
    (within-wider r s us h) (omega arith) (omega arith)
gap-wider r s false true us h rest =
    leave-wider 0 0 (count_before s us) (count_before r us) us rest (omega arith)
    (before-wider r s us h) (before-length r us)
gap-wider r s false false us h rest =
    leave-wider 0 0 (length us) (length us) us rest (omega arith) (omega arith) (omega arith)
