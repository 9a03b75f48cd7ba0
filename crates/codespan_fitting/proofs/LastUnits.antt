-- For `keep_last`: the last units of a text that have at most so many cells, by its characters.
use Rattle.codespan_core.proofs.Std.{◌≡◌, ℕ, ◌+◌, ◌<◌, ◌≤◌, List, []}
use Rattle.codespan_core.proofs.Std.{◌∷◌, ◌++◌, refl, ap, sym, ◌∙◌, subst, arith}
use Rattle.codespan_core.proofs.Std.{le-leb, lt-leb, ⊎_elim, cases_eq, append_assoc, append-nil}
use Rattle.codespan_core.proofs.Std.{len_utf8}
use Rattle.std.specs.Prelude.{⊤}
use Rattle.codespan_output.specs.FittedParts.{TextUnit, cells_at_most, count_before, unit_bytes}
use Rattle.codespan_output.specs.FittedParts.{unit_cells, units_of, with_char}
use Rattle.codespan_output.proofs.WiderRadius.Gaps.{unit_cells-append}
use Rattle.codespan_fitting.specs.Walks.{before_last, last_within, char_bytes, char_cells}
use Rattle.codespan_fitting.specs.Walks.{BeginsUnit, HaveNoCells, IsPassed}
use Rattle.codespan_fitting.proofs.UnitLemmas.{with-cell, with-no_cell, units-bytes, units-cells}

-- ---- the units of two texts, the second of which begins a unit

-- these units are none, or the first one has cells
abbrev pub FirstHasCells : List TextUnit → Type 0
FirstHasCells [] = ⊤
FirstHasCells (u ∷ us) = 0 < u.cells

with-begins : (tab c : ℕ) (us : List TextUnit) → 0 < cells_at_most tab c
    → FirstHasCells (with_char tab c us)
with-begins tab c [] h = h
with-begins tab c (u ∷ us) h =
    ⊎_elim
    (λ none. subst FirstHasCells (sym (with-no_cell tab c u us none)) h)
    (λ some. subst FirstHasCells (sym (with-cell tab c u us some)) h)
    (cases_eq u.cells 0)

begins-units : (tab : ℕ) (cs : List ℕ) → BeginsUnit tab cs → FirstHasCells (units_of tab cs)
begins-units tab [] h = tt
begins-units tab (c ∷ cs) h = with-begins tab c (units_of tab cs) h

with-append : (tab c : ℕ) (us vs : List TextUnit) → FirstHasCells vs
    → with_char tab c (us ++ vs) ≡ with_char tab c us ++ vs
with-append tab c [] [] h = refl
with-append tab c [] (v ∷ vs) h = with-cell tab c v vs (λ e. omega (arith, e, h))
with-append tab c (u ∷ us) vs h =
    ⊎_elim
    (λ none.
    with-no_cell tab c u (us ++ vs) none
    ∙ sym (ap (λ xs. xs ++ vs) (with-no_cell tab c u us none)))
    (λ some.
    with-cell tab c u (us ++ vs) some ∙ sym (ap (λ xs. xs ++ vs) (with-cell tab c u us some)))
    (cases_eq u.cells 0)

-- the units of both are those of the first and those of the second
pub units-append : (tab : ℕ) (xs ys : List ℕ) → BeginsUnit tab ys
    → units_of tab (xs ++ ys) ≡ units_of tab xs ++ units_of tab ys
units-append tab [] ys h = refl
units-append tab (x ∷ xs) ys h =
    ap (with_char tab x) (units-append tab xs ys h)
    ∙ with-append tab x (units_of tab xs) (units_of tab ys) (begins-units tab ys h)

-- a character and those without cells after it are one unit
pub record IsOneUnit (tab c : ℕ) (us : List TextUnit) : Type 0 where
  pub bytes : ℕ
  pub is : us ≡ record { bytes = bytes; cells = cells_at_most tab c } ∷ []

pub single-unit : (tab c : ℕ) (zs : List ℕ) → HaveNoCells tab zs
    → IsOneUnit tab c (units_of tab (c ∷ zs))
single-unit tab c [] h = record { bytes = len_utf8 c; is = refl }
single-unit tab c (z ∷ zs) h =
    let next = single-unit tab z zs h.1 in
    record {
      bytes = len_utf8 c + next.bytes;
      is =
          ap (with_char tab c) next.is
          ∙ with-no_cell tab c
          (record { bytes = next.bytes; cells = cells_at_most tab z }) [] h.0;
    }

-- ---- sums

pub bytes-append : (xs ys : List ℕ) → char_bytes (xs ++ ys) ≡ char_bytes xs + char_bytes ys
bytes-append [] ys = omega arith
bytes-append (x ∷ xs) ys = omega (arith, bytes-append xs ys)

pub cells-append : (tab : ℕ) (xs ys : List ℕ)
    → char_cells tab (xs ++ ys) ≡ char_cells tab xs + char_cells tab ys
cells-append tab [] ys = omega arith
cells-append tab (x ∷ xs) ys = omega (arith, cells-append tab xs ys)

pub no-cells : (tab : ℕ) (zs : List ℕ) → HaveNoCells tab zs → char_cells tab zs ≡ 0
no-cells tab [] h = refl
no-cells tab (z ∷ zs) h = omega (arith, h.0, no-cells tab zs h.1)

-- ---- the last units

-- all of them
pub before-all : (r : ℕ) (us : List TextUnit) → unit_cells us ≤ r → count_before r us ≡ 0
before-all r [] h = refl
before-all r (u ∷ us) h = rw (le-leb (unit_cells (u ∷ us)) r h) refl

-- those after one with which they would have too many cells
pub before-at : (r : ℕ) (xs : List TextUnit) (x : TextUnit) (ys : List TextUnit)
    → unit_cells ys ≤ r → r < x.cells + unit_cells ys
    → (before_last r (xs ++ x ∷ ys) ≡ xs ++ x ∷ [])
    × (last_within r (xs ++ x ∷ ys) ≡ ys)
before-at r [] x ys fits more =
    rw (lt-leb (unit_cells (x ∷ ys)) r more, before-all r ys fits) (refl, refl)
before-at r (w ∷ xs) x ys fits more =
    let rest = before-at r xs x ys fits more in
    let sum = unit_cells-append xs (x ∷ ys) in
    rw (lt-leb (unit_cells (w ∷ (xs ++ x ∷ ys))) r (omega (arith, sum, more)))
    (ap (λ us. w ∷ us) rest.0, rest.1)

-- ---- a loop from the last character on

-- at its start it has passed none
pub passed-none : (tab : ℕ) (cs : List ℕ) → IsPassed tab cs cs (char_bytes cs) 0
passed-none tab cs = record {
  joined = [];
  passed = [];
  split = sym (append-nil cs);
  joins = tt;
  begins = tt;
  start_is = ap char_bytes (append-nil cs);
  spent_is = refl;
}

-- a character without cells
pub passed-joined : (tab : ℕ) (cs bs : List ℕ) (c start spent : ℕ)
    → IsPassed tab cs (bs ++ c ∷ []) start spent → cells_at_most tab c ≡ 0
    → IsPassed tab cs bs start spent
passed-joined tab cs bs c start spent h none = record {
  joined = c ∷ h.joined;
  passed = h.passed;
  split = h.split ∙ append_assoc bs (c ∷ []) (h.joined ++ h.passed);
  joins = (none, h.joins);
  begins = h.begins;
  start_is = ap char_bytes (sym (append_assoc bs (c ∷ []) h.joined)) ∙ h.start_is;
  spent_is = h.spent_is;
}

-- a character with cells
pub passed-more : (tab : ℕ) (cs bs : List ℕ) (c start spent : ℕ)
    → IsPassed tab cs (bs ++ c ∷ []) start spent → 0 < cells_at_most tab c
    → IsPassed tab cs bs (char_bytes bs) (spent + cells_at_most tab c)
passed-more tab cs bs c start spent h some = record {
  joined = [];
  passed = c ∷ (h.joined ++ h.passed);
  split = h.split ∙ append_assoc bs (c ∷ []) (h.joined ++ h.passed);
  joins = tt;
  begins = some;
  start_is = ap char_bytes (append-nil bs);
  spent_is =
      omega (
        arith,
        cells-append tab h.joined h.passed,
        no-cells tab h.joined h.joins,
        h.spent_is,
      );
}

-- at its end it has passed all
pub passed-all : (tab r : ℕ) (cs : List ℕ) (start spent : ℕ)
    → IsPassed tab cs [] start spent
    → spent ≤ r
    → (0 ≡ unit_bytes (before_last r (units_of tab cs)))
    × (spent ≡ unit_cells (last_within r (units_of tab cs)))
passed-all tab r cs start spent h fits =
    let sum : unit_cells (units_of tab cs) ≡ spent =
    units-cells tab cs
    ∙ ap (char_cells tab) h.split
    ∙ cells-append tab h.joined h.passed
    ∙ omega (arith, no-cells tab h.joined h.joins, h.spent_is) in
    rw (before-all r (units_of tab cs) (omega (arith, sum, fits))) (refl, sym sum)

-- it stops at a character with too many cells
pub passed-stop : (tab r : ℕ) (cs bs : List ℕ) (c start spent : ℕ)
    → IsPassed tab cs (bs ++ c ∷ []) start spent → spent ≤ r
    → r < spent + cells_at_most tab c
    → (start ≡ unit_bytes (before_last r (units_of tab cs)))
    × (spent ≡ unit_cells (last_within r (units_of tab cs)))
passed-stop tab r cs bs c start spent h fits more =
    let some : 0 < cells_at_most tab c = omega (arith, fits, more) in
    let one = single-unit tab c h.joined h.joins in
    let x : TextUnit = record { bytes = one.bytes; cells = cells_at_most tab c } in
    let split : cs ≡ bs ++ ((c ∷ h.joined) ++ h.passed) =
    h.split ∙ append_assoc bs (c ∷ []) (h.joined ++ h.passed) in
    let units : units_of tab cs ≡ units_of tab bs ++ x ∷ units_of tab h.passed =
    ap (units_of tab) split
    ∙ units-append tab bs ((c ∷ h.joined) ++ h.passed) some
    ∙ ap (λ us. units_of tab bs ++ us)
    (units-append tab (c ∷ h.joined) h.passed h.begins
    ∙ ap (λ us. us ++ units_of tab h.passed) one.is) in
    let sum : unit_cells (units_of tab h.passed) ≡ spent =
    units-cells tab h.passed ∙ h.spent_is in
    let parts = before-at r (units_of tab bs) x (units_of tab h.passed)
    (omega (arith, sum, fits)) (omega (arith, sum, more)) in
    let front : units_of tab bs ++ x ∷ [] ≡ units_of tab ((bs ++ c ∷ []) ++ h.joined) =
    ap (λ us. units_of tab bs ++ us) (sym one.is)
    ∙ sym (units-append tab bs (c ∷ h.joined) some)
    ∙ ap (units_of tab) (sym (append_assoc bs (c ∷ []) h.joined)) in (
      sym h.start_is
          ∙ sym (units-bytes tab ((bs ++ c ∷ []) ++ h.joined))
          ∙ ap unit_bytes (sym front ∙ sym parts.0 ∙ ap (before_last r) (sym units)),
      sym sum ∙ ap unit_cells (sym parts.1 ∙ ap (last_within r) (sym units)),
    )
