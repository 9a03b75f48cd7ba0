-- For `refill_gaps`: a text is cut where a unit begins.
use Rattle.codespan_core.proofs.Std.{◌≡◌, ℕ, zero, suc, ◌+◌, ◌-◌, ◌<◌, ◌≤◌, List}
use Rattle.codespan_core.proofs.Std.{[], ◌∷◌, ◌++◌, length, take, drop, refl, ap, sym}
use Rattle.codespan_core.proofs.Std.{◌∙◌, subst, arith, ⊎_elim, cases_eq}
use Rattle.codespan_core.proofs.Std.{cases_lt, lt-ltb, le-ltb, IsUtf8, IsCharBoundary, chars}
use Rattle.codespan_core.proofs.Std.{length-take-le, length-drop, slice_range, take-append-drop}
use Rattle.std.specs.Prelude.{⊤}
use Rattle.std.proofs.lemmas.List.Folds.{drop_split}
use Rattle.std.proofs.lemmas.Str.{IsUtf8-between, IsUtf8-take, chars-append}
use Rattle.std.proofs.lemmas.Str.{chars-nil, IsCharBoundary-start}
use Rattle.codespan_output.specs.FittedParts.{TextUnit, unit_bytes, units_of, with_char}
use Rattle.codespan_fitting.specs.Units.{end_of, start_of}
use Rattle.codespan_fitting.specs.Walks.{BeginsUnit, text_units}
use Rattle.codespan_fitting.proofs.LastUnits.{FirstHasCells, units-append}
use Rattle.codespan_fitting.proofs.SplitUnits.{text-split}
use Rattle.codespan_fitting.proofs.TextSteps.{text-bytes}
use Rattle.codespan_fitting.proofs.UnitLemmas.{units-bytes, with-cell, with-no_cell}

-- ---- units after the first have cells

abbrev HaveCells : List TextUnit → Type 0
HaveCells [] = ⊤
HaveCells (u ∷ us) = (0 < u.cells) × HaveCells us

abbrev LaterHaveCells : List TextUnit → Type 0
LaterHaveCells [] = ⊤
LaterHaveCells (u ∷ us) = HaveCells us

with-later : (tab c : ℕ) (us : List TextUnit) → LaterHaveCells us
    → LaterHaveCells (with_char tab c us)
with-later tab c [] h = tt
with-later tab c (u ∷ us) h =
    ⊎_elim
    (λ none. subst LaterHaveCells (sym (with-no_cell tab c u us none)) h)
    (λ some.
    subst LaterHaveCells (sym (with-cell tab c u us some)) (by_cells u.cells refl some, h))
    (cases_eq u.cells 0)
  where
    by_cells : (n : ℕ) → u.cells ≡ n → (u.cells ≡ 0 → ⊥) → 0 < u.cells
    by_cells zero is some = absurd (some is)
    by_cells (suc n) is some = omega (arith, is)

units-later : (tab : ℕ) (cs : List ℕ) → LaterHaveCells (units_of tab cs)
units-later tab [] = tt
units-later tab (c ∷ cs) = with-later tab c (units_of tab cs) (units-later tab cs)

dropped-cells : (k : ℕ) (us : List TextUnit) → HaveCells us → FirstHasCells (drop k us)
dropped-cells zero [] h = tt
dropped-cells zero (u ∷ us) h = h.0
dropped-cells (suc k) [] h = tt
dropped-cells (suc k) (u ∷ us) h = dropped-cells k us h.1

dropped-first : (k : ℕ) (us : List TextUnit) → LaterHaveCells us
    → FirstHasCells (drop (suc k) us)
dropped-first k [] h = tt
dropped-first k (u ∷ us) h = dropped-cells k us h

-- characters whose first unit has cells begin a unit
with-first : (tab c : ℕ) (us : List TextUnit) → FirstHasCells (with_char tab c us)
    → BeginsUnit tab (c ∷ [])
with-first tab c [] h = h
with-first tab c (u ∷ us) h =
    ⊎_elim
    (λ none. subst FirstHasCells (with-no_cell tab c u us none) h)
    (λ some. subst FirstHasCells (with-cell tab c u us some) h)
    (cases_eq u.cells 0)

begins-from-units : (tab : ℕ) (cs : List ℕ) → FirstHasCells (units_of tab cs)
    → BeginsUnit tab cs
begins-from-units tab [] h = tt
begins-from-units tab (c ∷ cs) h = with-first tab c (units_of tab cs) h

-- ---- cuts

-- a unit of the text begins at this byte, or the text begins or ends there
pub record IsCut (tab : ℕ) (text : List ℕ) (at : ℕ) : Type 0 where
  pub boundary : IsCharBoundary text at
  pub begins : 0 < at → BeginsUnit tab (chars (drop at text))

pub cut-start : (tab : ℕ) (text : List ℕ) → IsUtf8 text → IsCut tab text 0
cut-start tab text u =
    record { boundary = IsCharBoundary-start text u; begins = λ h. absurd (omega (arith, h)) }

cut-unit : (tab : ℕ) (text : List ℕ) (k : ℕ) → IsUtf8 text
    → IsCut tab text (unit_bytes (take k (text_units tab text)))
cut-unit tab text zero u = cut-start tab text u
cut-unit tab text (suc k) u =
    let s = text-split tab text (suc k) u in
    record {
      boundary = s.boundary;
      begins = λ _.
          begins-from-units tab
          (chars (drop (unit_bytes (take (suc k) (text_units tab text))) text))
          (subst FirstHasCells (sym s.rest)
          (dropped-first k (text_units tab text) (units-later tab (chars text))));
    }

-- how many units are before a byte
record IsIndexed (us : List TextUnit) (at byte : ℕ) : Type 0 where
  count : ℕ
  is : at + unit_bytes (take count us) ≡ byte

start-indexed : (at byte : ℕ) (us : List TextUnit) → IsIndexed us at (start_of at byte us)
start-indexed at byte [] = record { count = 0; is = omega arith }
start-indexed at byte (u ∷ us) =
    ⊎_elim
    (λ here. rw (lt-ltb byte (at + u.bytes) here) record { count = 0; is = omega arith })
    (λ past.
    let rest = start-indexed (at + u.bytes) byte us in
    rw (le-ltb byte (at + u.bytes) past)
    record { count = suc rest.count; is = omega (arith, rest.is) })
    (cases_lt byte (at + u.bytes))

end-indexed : (at byte : ℕ) (us : List TextUnit) → IsIndexed us at (end_of at byte us)
end-indexed at byte [] = record { count = 0; is = omega arith }
end-indexed at byte (u ∷ us) =
    ⊎_elim
    (λ here. rw (lt-ltb byte (at + u.bytes) here) record { count = 1; is = omega arith })
    (λ past.
    let rest = end-indexed (at + u.bytes) byte us in
    rw (le-ltb byte (at + u.bytes) past)
    record { count = suc rest.count; is = omega (arith, rest.is) })
    (cases_lt byte (at + u.bytes))

pub cut-start_of : (tab : ℕ) (text : List ℕ) (byte : ℕ) → IsUtf8 text
    → IsCut tab text (start_of 0 byte (text_units tab text))
cut-start_of tab text byte u =
    let i = start-indexed 0 byte (text_units tab text) in
    let is : unit_bytes (take i.count (text_units tab text))
    ≡ start_of 0 byte (text_units tab text) = omega (arith, i.is) in
    subst (IsCut tab text) is (cut-unit tab text i.count u)

pub cut-end_of : (tab : ℕ) (text : List ℕ) (byte : ℕ) → IsUtf8 text
    → IsCut tab text (end_of 0 byte (text_units tab text))
cut-end_of tab text byte u =
    let i = end-indexed 0 byte (text_units tab text) in
    let is : unit_bytes (take i.count (text_units tab text))
    ≡ end_of 0 byte (text_units tab text) = omega (arith, i.is) in
    subst (IsCut tab text) is (cut-unit tab text i.count u)

-- ---- the units before a cut and after it

-- bytes of units
pub text-unit_bytes : (tab : ℕ) (text : List ℕ) → IsUtf8 text
    → unit_bytes (text_units tab text) ≡ length text
text-unit_bytes tab text u = units-bytes tab (chars text) ∙ text-bytes text u

pub cut-whole : (tab : ℕ) (text : List ℕ) (at : ℕ) → IsUtf8 text → IsCut tab text at
    → text_units tab text ≡ text_units tab (take at text) ++ text_units tab (drop at text)
cut-whole tab text zero u h = rw chars-nil refl
cut-whole tab text (suc n) u h =
    ap (text_units tab) (sym (take-append-drop (suc n) text))
    ∙ ap (units_of tab)
    (chars-append (take (suc n) text) (drop (suc n) text)
    (IsUtf8-take text (suc n) u h.boundary))
    ∙ units-append tab (chars (take (suc n) text)) (chars (drop (suc n) text))
    (h.begins (omega arith))

pub cut-between : (tab : ℕ) (text : List ℕ) (from to : ℕ) → IsUtf8 text
    → IsCut tab text from
    → IsCut tab text to → from ≤ to
    → text_units tab (drop from text)
    ≡ text_units tab (slice_range text from to) ++ text_units tab (drop to text)
cut-between tab text from zero u f t order =
    let none : from ≡ 0 = omega (arith, order) in rw (none, chars-nil) refl
cut-between tab text from (suc n) u f t order =
    ap (text_units tab) (drop_split text from (suc n) order)
    ∙ ap (units_of tab)
    (chars-append (slice_range text from (suc n)) (drop (suc n) text)
    (IsUtf8-between text from (suc n) u order f.boundary t.boundary))
    ∙ units-append tab (chars (slice_range text from (suc n))) (chars (drop (suc n) text))
    (t.begins (omega arith))

-- the bytes of the units between
pub between-bytes : (tab : ℕ) (text : List ℕ) (from to : ℕ) → IsUtf8 text
    → IsCut tab text from
    → IsCut tab text to → from ≤ to
    → unit_bytes (text_units tab (slice_range text from to)) ≡ to - from
between-bytes tab text from to u f t order =
    text-unit_bytes tab (slice_range text from to)
    (IsUtf8-between text from to u order f.boundary t.boundary)
    ∙ length-take-le (to - from) (drop from text)
    (omega (arith, length-drop from text, t.boundary.0, order))
