-- For `FitsOnce`: the units of the text that is shown.
use Rattle.codespan_core.proofs.Std.{◌≡◌, ℕ, ◌+◌, ◌<◌, Bool, true, false, ◌==◌, List, [], ◌∷◌, ◌++◌}
use Rattle.codespan_core.proofs.Std.{drop, refl, sym, ap, ap₂, ◌∙◌, arith, if◌then◌else◌}
use Rattle.codespan_core.proofs.Std.{AllByRecursion, len_utf8, len_utf8_bounds, ne_eqb, cond_both}
use Rattle.codespan_core.proofs.Std.{length, subst}
use Rattle.std.proofs.lemmas.Bool.{eqb-false}
use Rattle.unicode_width.specs.Width.{char_width}
use Rattle.codespan_output.specs.{TextUnit, Piece, Kept, Dots, unit_bytes, units_of, with_char}
use Rattle.codespan_output.specs.{cells_at_most, piece_units, DotsAreMany}
use Rattle.codespan_output.proofs.Fitting.Pieces.{unit_bytes-append}
use Rattle.codespan_output.proofs.Fitting.Spelled.{PiecesSpell, shown_chars, spelled_bytes}
use Rattle.codespan_output.proofs.Fitting.Spelled.{spelled-append}

-- a full stop as a unit
abbrev pub dot : TextUnit
dot = record { bytes = 1; cells = 1 }

-- the units that are shown
abbrev pub shown_units : List Piece → List TextUnit
shown_units [] = []
shown_units (Kept u ∷ ps) = u ∷ shown_units ps
shown_units (Dots us ∷ ps) = dot ∷ dot ∷ dot ∷ shown_units ps

-- each of these units has a cell
abbrev pub HaveCells : List TextUnit → Type 0
HaveCells us = AllByRecursion (λ (u : TextUnit). 0 < u.cells) us

-- the first of these units has a cell
abbrev FirstHasCells : List TextUnit → Type 0
FirstHasCells [] = Unit
FirstHasCells (u ∷ us) = 0 < u.cells

cells-append : (xs ys : List TextUnit) → HaveCells (xs ++ ys) → HaveCells ys
cells-append [] ys h = h
cells-append (x ∷ xs) ys h = cells-append xs ys h.1

-- ---- units of two texts

before-units : (tab c : ℕ) (us : List TextUnit) → FirstHasCells us
    → with_char tab c us ≡ record { bytes = len_utf8 c; cells = cells_at_most tab c } ∷ us
before-units tab c [] h = refl
before-units tab c (u ∷ us) h =
    ap (λ b. if b then record { bytes = len_utf8 c + u.bytes; cells = cells_at_most tab c } ∷ us
    else record { bytes = len_utf8 c; cells = cells_at_most tab c } ∷ u ∷ us)
    (ne_eqb u.cells 0 (λ e. omega arith))

with_char-append : (tab c : ℕ) (u : TextUnit) (us vs : List TextUnit)
    → with_char tab c ((u ∷ us) ++ vs) ≡ with_char tab c (u ∷ us) ++ vs
with_char-append tab c u us vs = by_test (u.cells == 0)
  where
    by_test : (b : Bool)
        → (if b
        then record { bytes = len_utf8 c + u.bytes; cells = cells_at_most tab c } ∷ us ++ vs
        else record { bytes = len_utf8 c; cells = cells_at_most tab c } ∷ u ∷ us ++ vs)
        ≡ (if b then record { bytes = len_utf8 c + u.bytes; cells = cells_at_most tab c } ∷ us
        else record { bytes = len_utf8 c; cells = cells_at_most tab c } ∷ u ∷ us) ++ vs
    by_test true = refl
    by_test false = refl

units-append : (tab : ℕ) (ds es : List ℕ) → FirstHasCells (units_of tab es)
    → units_of tab (ds ++ es) ≡ units_of tab ds ++ units_of tab es
units-append tab [] es h = refl
units-append tab (d ∷ ds) es h =
    ap (with_char tab d) (units-append tab ds es h) ∙ by_units (units_of tab ds)
  where
    by_units : (us : List TextUnit)
        → with_char tab d (us ++ units_of tab es) ≡ with_char tab d us ++ units_of tab es
    by_units [] = before-units tab d (units_of tab es) h
    by_units (u ∷ us) = with_char-append tab d u us (units_of tab es)

-- ---- the text that is shown

first-shown : (ps : List Piece) → DotsAreMany ps → HaveCells (piece_units ps)
    → FirstHasCells (shown_units ps)
first-shown [] many h = tt
first-shown (Kept u ∷ ps) many h = h.0
first-shown (Dots us ∷ ps) many h = omega arith

dot-unit : (tab : ℕ) → cells_at_most tab 46 ≡ 1
unfolding char_width
dot-unit tab = refl

add-dot : (tab : ℕ) (us : List TextUnit) → FirstHasCells us
    → with_char tab 46 us ≡ dot ∷ us
add-dot tab us h =
    before-units tab 46 us h
    ∙ ap {B = List TextUnit} (λ n. record { bytes = 1; cells = n } ∷ us) (dot-unit tab)

add-dots : (tab : ℕ) (us : List TextUnit) → FirstHasCells us
    → with_char tab 46 (with_char tab 46 (with_char tab 46 us)) ≡ dot ∷ dot ∷ dot ∷ us
add-dots tab us h =
    ap (λ vs. with_char tab 46 (with_char tab 46 vs)) (add-dot tab us h)
    ∙ ap (with_char tab 46) (add-dot tab (dot ∷ us) (omega arith))
    ∙ add-dot tab (dot ∷ dot ∷ us) (omega arith)

behind-dots : (us vs : List TextUnit) → 3 < length us → HaveCells (drop 1 (us ++ vs)) → HaveCells vs
behind-dots [] vs h k = absurd (omega arith)
behind-dots (u ∷ us) vs h k = cells-append us vs k

-- the units of the text that is shown are those of its pieces
pub shown-units : (tab : ℕ) (ps : List Piece) (cs : List ℕ) (h : PiecesSpell tab ps cs)
    → unit_bytes (piece_units ps) ≡ spelled_bytes cs
    → DotsAreMany ps → HaveCells (drop 1 (piece_units ps))
    → units_of tab (shown_chars tab ps cs h) ≡ shown_units ps
shown-units tab [] [] h all many cells = refl
shown-units tab [] (c ∷ cs) h all many cells = absurd (omega (arith, (len_utf8_bounds c).0))
shown-units tab (Kept u ∷ ps) cs h all many cells =
    let left : unit_bytes (piece_units ps) ≡ spelled_bytes h.1 =
    omega (arith, ap spelled_bytes h.2, spelled-append h.0 h.1, h.3) in
    let rest = shown-units tab ps h.1 h.4 left many (behind-one (piece_units ps) cells) in
    units-append tab h.0 (shown_chars tab ps h.1 h.4)
    (subst FirstHasCells (sym rest) (first-shown ps many cells))
    ∙ ap₂ (λ a b. a ++ b) h.6 rest
  where
    behind-one : (us : List TextUnit) → HaveCells us → HaveCells (drop 1 us)
    behind-one [] k = tt
    behind-one (v ∷ us) k = k.1
shown-units tab (Dots us ∷ ps) cs h all many cells =
    let left : unit_bytes (piece_units ps) ≡ spelled_bytes h.1 =
    omega (
      arith,
      ap spelled_bytes h.2,
      spelled-append h.0 h.1,
      h.3,
      unit_bytes-append us (piece_units ps),
    ) in
    let some = behind-dots us (piece_units ps) many.0 cells in
    let rest = shown-units tab ps h.1 h.4 left many.1 (behind-one (piece_units ps) some) in
    ap (λ vs. with_char tab 46 (with_char tab 46 (with_char tab 46 vs))) rest
    ∙ add-dots tab (shown_units ps) (first-shown ps many.1 some)
  where
    behind-one : (us : List TextUnit) → HaveCells us → HaveCells (drop 1 us)
    behind-one [] k = tt
    behind-one (v ∷ us) k = k.1

-- all units of a text but the first have cells
with_char-cells : (tab c : ℕ) (us : List TextUnit) → HaveCells (drop 1 us)
    → HaveCells (drop 1 (with_char tab c us))
with_char-cells tab c [] h = tt
with_char-cells tab c (u ∷ us) h =
    cond_both (u.cells == 0)
    (record { bytes = len_utf8 c + u.bytes; cells = cells_at_most tab c } ∷ us)
    (record { bytes = len_utf8 c; cells = cells_at_most tab c } ∷ u ∷ us)
    (λ vs. HaveCells (drop 1 vs)) (λ _. h)
    (λ some. (omega (arith, eqb-false u.cells 0 some), h))

pub units-cells : (tab : ℕ) (cs : List ℕ) → HaveCells (drop 1 (units_of tab cs))
units-cells tab [] = tt
units-cells tab (c ∷ cs) = with_char-cells tab c (units_of tab cs) (units-cells tab cs)
