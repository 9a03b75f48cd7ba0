-- For the loops over the characters of a gap: the units that the characters make.
use Rattle.codespan_core.proofs.Std.{◌≡◌, ℕ, ◌+◌, ◌-◌, ◌<◌, ◌≤◌, List, []}
use Rattle.codespan_core.proofs.Std.{◌∷◌, refl, ap, sym, ◌∙◌, arith, le-leb, lt-leb}
use Rattle.codespan_core.proofs.Std.{eq-eqb, ne_eqb, ⊎_elim, cases_eq, cases_lt, len_utf8}
use Rattle.codespan_output.specs.FittedParts.{TextUnit, cells_at_most, unit_bytes, unit_cells}
use Rattle.codespan_output.specs.FittedParts.{units_of, with_char}
use Rattle.codespan_fitting.specs.Walks.{first_within, char_bytes, char_cells, bytes_within}
use Rattle.codespan_fitting.specs.Walks.{cells_within}

-- ---- one character more

-- the unit of a character alone
abbrev pub unit_of : ℕ → ℕ → TextUnit
unit_of tab c = record { bytes = len_utf8 c; cells = cells_at_most tab c }

-- the unit of a character and of what it takes in
abbrev pub joined_unit : ℕ → ℕ → TextUnit → TextUnit
joined_unit tab c u = record { bytes = len_utf8 c + u.bytes; cells = cells_at_most tab c }

-- the first unit's cells decide
pub with-cell : (tab c : ℕ) (u : TextUnit) (us : List TextUnit) → (u.cells ≡ 0 → ⊥)
    → with_char tab c (u ∷ us) ≡ unit_of tab c ∷ u ∷ us
with-cell tab c u us some = rw (ne_eqb u.cells 0 some) refl

pub with-no_cell : (tab c : ℕ) (u : TextUnit) (us : List TextUnit) → u.cells ≡ 0
    → with_char tab c (u ∷ us) ≡ joined_unit tab c u ∷ us
with-no_cell tab c u us none = rw (eq-eqb u.cells 0 none) refl

-- ---- the first units

-- where the first of these units has too many cells
pub first-stop : (left : ℕ) (u : TextUnit) (us : List TextUnit) → left < u.cells
    → first_within left (u ∷ us) ≡ []
first-stop left u us h = rw (lt-leb u.cells left h) refl

-- where it is among the first ones
pub first-more : (left : ℕ) (u : TextUnit) (us : List TextUnit) → u.cells ≤ left
    → first_within left (u ∷ us) ≡ u ∷ first_within (left - u.cells) us
first-more left u us h = rw (le-leb u.cells left h) refl

-- where it has no cells
first-joined : (left : ℕ) (u : TextUnit) (us : List TextUnit) → u.cells ≡ 0
    → first_within left (u ∷ us) ≡ u ∷ first_within left us
first-joined left u us none =
    let same : left - u.cells ≡ left = omega (arith, none) in
    first-more left u us (omega (arith, none)) ∙ ap (λ n. u ∷ first_within n us) same

-- after a character that is among the first ones
pub first-char : (tab left c : ℕ) (us : List TextUnit) → cells_at_most tab c ≤ left
    → (unit_bytes (first_within left (with_char tab c us))
    ≡ len_utf8 c + unit_bytes (first_within (left - cells_at_most tab c) us))
    × (unit_cells (first_within left (with_char tab c us))
    ≡ cells_at_most tab c + unit_cells (first_within (left - cells_at_most tab c) us))
first-char tab left c [] h =
    let e = first-more left (unit_of tab c) [] h in (ap unit_bytes e, ap unit_cells e)
first-char tab left c (u ∷ us) h =
    ⊎_elim
    (λ none.
    let e = ap (first_within left) (with-no_cell tab c u us none)
    ∙ first-more left (joined_unit tab c u) us h in
    let d = first-joined (left - cells_at_most tab c) u us none in (
      omega (arith, ap unit_bytes e, ap unit_bytes d),
      omega (arith, none, ap unit_cells e, ap unit_cells d),
    ))
    (λ some.
    let e = ap (first_within left) (with-cell tab c u us some)
    ∙ first-more left (unit_of tab c) (u ∷ us) h in
    (ap unit_bytes e, ap unit_cells e))
    (cases_eq u.cells 0)

-- after a character that has too many cells
pub first-char-stop : (tab left c : ℕ) (us : List TextUnit) → left < cells_at_most tab c
    → first_within left (with_char tab c us) ≡ []
first-char-stop tab left c [] h = first-stop left (unit_of tab c) [] h
first-char-stop tab left c (u ∷ us) h =
    ⊎_elim
    (λ none.
    ap (first_within left) (with-no_cell tab c u us none)
    ∙ first-stop left (joined_unit tab c u) us h)
    (λ some.
    ap (first_within left) (with-cell tab c u us some)
    ∙ first-stop left (unit_of tab c) (u ∷ us) h)
    (cases_eq u.cells 0)

-- ---- all units

-- a character adds its bytes and its cells
with-sums : (tab c : ℕ) (us : List TextUnit)
    → (unit_bytes (with_char tab c us) ≡ len_utf8 c + unit_bytes us)
    × (unit_cells (with_char tab c us) ≡ cells_at_most tab c + unit_cells us)
with-sums tab c [] = (refl, refl)
with-sums tab c (u ∷ us) =
    ⊎_elim
    (λ none.
    let e = with-no_cell tab c u us none in
    (omega (arith, ap unit_bytes e), omega (arith, none, ap unit_cells e)))
    (λ some. let e = with-cell tab c u us some in (ap unit_bytes e, ap unit_cells e))
    (cases_eq u.cells 0)

-- the bytes of the units are those of the characters
pub units-bytes : (tab : ℕ) (cs : List ℕ) → unit_bytes (units_of tab cs) ≡ char_bytes cs
units-bytes tab [] = refl
units-bytes tab (c ∷ cs) =
    (with-sums tab c (units_of tab cs)).0 ∙ ap (λ n. len_utf8 c + n) (units-bytes tab cs)

-- and so are their cells
pub units-cells : (tab : ℕ) (cs : List ℕ) → unit_cells (units_of tab cs) ≡ char_cells tab cs
units-cells tab [] = refl
units-cells tab (c ∷ cs) =
    (with-sums tab c (units_of tab cs)).1
    ∙ ap (λ n. cells_at_most tab c + n) (units-cells tab cs)

-- ---- the first units, by characters

-- the bytes
pub within-bytes : (tab left : ℕ) (cs : List ℕ)
    → bytes_within tab left cs ≡ unit_bytes (first_within left (units_of tab cs))
within-bytes tab left [] = refl
within-bytes tab left (c ∷ cs) =
    ⊎_elim
    (λ more.
    rw (lt-leb (cells_at_most tab c) left more)
    (sym (ap unit_bytes (first-char-stop tab left c (units_of tab cs) more))))
    (λ fits.
    rw (le-leb (cells_at_most tab c) left fits)
    (ap (λ n. len_utf8 c + n) (within-bytes tab (left - cells_at_most tab c) cs)
    ∙ sym (first-char tab left c (units_of tab cs) fits).0))
    (cases_lt left (cells_at_most tab c))

-- the cells
pub within-cells : (tab left : ℕ) (cs : List ℕ)
    → cells_within tab left cs ≡ unit_cells (first_within left (units_of tab cs))
within-cells tab left [] = refl
within-cells tab left (c ∷ cs) =
    ⊎_elim
    (λ more.
    rw (lt-leb (cells_at_most tab c) left more)
    (sym (ap unit_cells (first-char-stop tab left c (units_of tab cs) more))))
    (λ fits.
    rw (le-leb (cells_at_most tab c) left fits)
    (ap (λ n. cells_at_most tab c + n) (within-cells tab (left - cells_at_most tab c) cs)
    ∙ sym (first-char tab left c (units_of tab cs) fits).1))
    (cases_lt left (cells_at_most tab c))
