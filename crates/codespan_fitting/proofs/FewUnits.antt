-- For `cells_of_few`: how many units characters make.
use Rattle.codespan_core.proofs.Std.{◌≡◌, ℕ, suc, ◌+◌, List, [], ◌∷◌, ◌++◌}
use Rattle.codespan_core.proofs.Std.{length, refl, ap, sym, ◌∙◌, arith, eq-eqb, ne_eqb}
use Rattle.codespan_core.proofs.Std.{⊎_elim, cases_eq, IsUtf8, encode_utf8, chars}
use Rattle.std.proofs.lemmas.Str.{chars_past_char, chars-nil}
use Rattle.codespan_output.specs.FittedParts.{TextUnit, cells_at_most, units_of, with_char}
use Rattle.codespan_fitting.specs.Walks.{begun_units, char_cells, text_units}
use Rattle.codespan_fitting.proofs.UnitLemmas.{joined_unit, unit_of, with-cell, with-no_cell}

-- the units of a character and more
record AreBegun (tab c : ℕ) (cs : List ℕ) : Type 0 where
  first : TextUnit
  rest : List TextUnit
  are : units_of tab (c ∷ cs) ≡ first ∷ rest
  cells : first.cells ≡ cells_at_most tab c
  count : length rest ≡ begun_units tab cs

are-begun : (tab c : ℕ) (cs : List ℕ) → AreBegun tab c cs
are-begun tab c [] =
    record { first = unit_of tab c; rest = []; are = refl; cells = refl; count = refl }
are-begun tab c (d ∷ ds) =
    let n = are-begun tab d ds in
    ⊎_elim
    (λ none. record {
      first = joined_unit tab c n.first;
      rest = n.rest;
      are = ap (with_char tab c) n.are ∙ with-no_cell tab c n.first n.rest none;
      cells = refl;
      count = rw (eq-eqb (cells_at_most tab d) 0 (sym n.cells ∙ none)) n.count;
    })
    (λ some. record {
      first = unit_of tab c;
      rest = n.first ∷ n.rest;
      are = ap (with_char tab c) n.are ∙ with-cell tab c n.first n.rest some;
      cells = refl;
      count = rw (ne_eqb (cells_at_most tab d) 0 (λ e. some (n.cells ∙ e))) (ap suc n.count);
    })
    (cases_eq n.first.cells 0)

-- how many units a text has, and their cells
pub begun-count : (tab c : ℕ) (text rest : List ℕ) → IsUtf8 text
    → text ≡ encode_utf8 c ++ rest
    → (length (text_units tab text) ≡ 1 + begun_units tab (chars rest))
    × (char_cells tab (chars text) ≡ cells_at_most tab c + char_cells tab (chars rest))
begun-count tab c text rest u e =
    let cs = chars_past_char text rest c u e in
    let n = are-begun tab c (chars rest) in
    (omega (arith, ap length (ap (units_of tab) cs ∙ n.are), n.count), ap (char_cells tab) cs)

-- one character more
pub begun-more : (tab cells c : ℕ) (rest next : List ℕ) → IsUtf8 rest
    → rest ≡ encode_utf8 c ++ next → cells ≡ cells_at_most tab c → (cells ≡ 0 → ⊥)
    → (begun_units tab (chars rest) ≡ 1 + begun_units tab (chars next))
    × (char_cells tab (chars rest) ≡ cells + char_cells tab (chars next))
begun-more tab cells c rest next u e is some =
    rw (
      chars_past_char rest next c u e,
      is,
      ne_eqb (cells_at_most tab c) 0 (λ none. some (is ∙ none)),
    )
    (omega arith, refl)

pub begun-joined : (tab cells c : ℕ) (rest next : List ℕ) → IsUtf8 rest
    → rest ≡ encode_utf8 c ++ next → cells ≡ cells_at_most tab c → cells ≡ 0
    → (begun_units tab (chars rest) ≡ begun_units tab (chars next))
    × (char_cells tab (chars rest) ≡ char_cells tab (chars next))
begun-joined tab cells c rest next u e is none =
    rw (chars_past_char rest next c u e, eq-eqb (cells_at_most tab c) 0 (sym is ∙ none))
    (refl, omega (arith, is, none))

-- none is left
pub begun-end : (tab : ℕ) (rest : List ℕ) → length rest ≡ 0
    → (begun_units tab (chars rest) ≡ 0) × (char_cells tab (chars rest) ≡ 0)
begun-end tab [] e = rw chars-nil (refl, refl)
begun-end tab (b ∷ bs) e = absurd (omega arith)

-- a text without characters has no units
pub no-units : (tab : ℕ) (text : List ℕ) → length text ≡ 0 → text_units tab text ≡ []
no-units tab [] e = ap (units_of tab) chars-nil
no-units tab (b ∷ bs) e = absurd (omega arith)
