-- For `refill_gaps`: a step over one span.
use Rattle.codespan_core.proofs.Std.{◌≡◌, ℕ, ◌+◌, ◌-◌, ◌<◌, ◌≤◌, Bool}
use Rattle.codespan_core.proofs.Std.{true, false, not, ◌==◌, List, [], ◌∷◌, ◌++◌}
use Rattle.codespan_core.proofs.Std.{length, take, drop, refl, ap, ap₂, sym, ◌∙◌, subst}
use Rattle.codespan_core.proofs.Std.{arith, ⊎_elim, ◌⊎◌, lt-ltb}
use Rattle.codespan_core.proofs.Std.{le-ltb, ne_eqb, append-nil, IsUtf8}
use Rattle.codespan_core.proofs.Std.{chars, length-drop, length-take-le}
use Rattle.codespan_core.proofs.Std.{slice_range}
use Rattle.std.specs.Prelude.{⊤}
use Rattle.std.proofs.lemmas.Str.{IsUtf8-drop, IsUtf8-take, chars-nil}
use Rattle.codespan_output.specs.FittedParts.{TextUnit, Part, Gap, is_needed, parts_from}
use Rattle.codespan_output.specs.FittedParts.{unit_bytes, unit_cells, units_of}
use Rattle.codespan_fitting.specs.Parts.{gap_between, gaps_from, needed_cells}
use Rattle.codespan_fitting.specs.Units.{end_of, start_of}
use Rattle.codespan_fitting.specs.Walks.{text_units}
use Rattle.codespan_fitting.proofs.NeededUnits.{has_byte, has-first, span-unit}
use Rattle.codespan_fitting.proofs.NeededUnits.{HaveBytes, units-have-bytes}
use Rattle.codespan_fitting.proofs.PartSteps.{AllNeeded, NoneNeeded, all-cells, all-gaps}
use Rattle.codespan_fitting.proofs.PartSteps.{each-among}
use Rattle.codespan_fitting.proofs.PartSteps.{none-parts}
use Rattle.codespan_fitting.proofs.UnitCuts.{IsCut, between-bytes, cut-between}
use Rattle.codespan_fitting.proofs.UnitCuts.{cut-whole, text-unit_bytes}

-- ---- one span more

-- a span alone
one-needed : (s : ℕ × ℕ) (p q : ℕ) (b : Bool) → has_byte s p q ≡ b
    → is_needed (s ∷ []) p q ≡ b
one-needed s p q true e = rw e refl
one-needed s p q false e = rw e refl

-- a span among others
among-needed : (xs : List (ℕ × ℕ)) (s : ℕ × ℕ) (ys : List (ℕ × ℕ)) (p q : ℕ)
    → has_byte s p q ≡ true
    → is_needed (xs ++ s ∷ ys) p q ≡ true
among-needed [] s ys p q e = rw e refl
among-needed (x ∷ xs) s ys p q e =
    by_test (among-needed xs s ys p q e) (has_byte x p q) refl
  where
    by_test : is_needed (xs ++ s ∷ ys) p q ≡ true → (b : Bool) → has_byte x p q ≡ b
        → is_needed (x ∷ (xs ++ s ∷ ys)) p q ≡ true
    by_test rest true is = rw is refl
    by_test rest false is = rw is rest

-- the first bytes of these spans are this byte or later
abbrev pub AreFrom : ℕ → List (ℕ × ℕ) → Type 0
AreFrom first [] = ⊤
AreFrom first (s ∷ ss) = (first ≤ s.0) × AreFrom first ss

pub from-needed : (first : ℕ) (ss : List (ℕ × ℕ)) (p q : ℕ) → AreFrom first ss → q ≤ first
    → is_needed ss p q ≡ false
from-needed first [] p q h low = refl
from-needed first (s ∷ ss) p q h low =
    rw (has-first s p q (omega (arith, h.0, low))) (from-needed first ss p q h.1 low)

-- ---- from a byte on

-- the units from a byte of a text on
abbrev pub units_after : ℕ → List ℕ → ℕ → List TextUnit
units_after tab text at = text_units tab (drop at text)

-- the units from one byte to another
abbrev pub units_between : ℕ → List ℕ → ℕ → ℕ → List TextUnit
units_between tab text from to = text_units tab (slice_range text from to)

-- the parts from a byte on, before which is a unit that has to be shown, or the text begins there
abbrev pub parts_after : ℕ → List ℕ → List (ℕ × ℕ) → ℕ → List Part
parts_after tab text spans at =
    parts_from spans (not (at == 0)) [] at (units_after tab text at)

module _ (tab : ℕ) (text : List ℕ) (utf8 : IsUtf8 text) (spans : List (ℕ × ℕ)) where
  before-bytes : (at : ℕ) → IsCut tab text at → unit_bytes (text_units tab (take at text)) ≡ at
  before-bytes at h =
      text-unit_bytes tab (take at text) (IsUtf8-take text at utf8 h.boundary)
      ∙ length-take-le at text h.boundary.0

  -- all units: before a byte, from it to another, and from that on
  split-at : (from to : ℕ) → IsCut tab text from → IsCut tab text to → from ≤ to
      → text_units tab text
      ≡ text_units tab (take from text)
      ++ (units_between tab text from to ++ units_after tab text to)
  split-at from to f t order =
      cut-whole tab text from utf8 f
      ∙ ap (λ us. text_units tab (take from text) ++ us)
      (cut-between tab text from to utf8 f t order)

  after-bytes : (at : ℕ) → IsCut tab text at
      → at + unit_bytes (units_after tab text at) ≡ length text
  after-bytes at h =
      omega (
        arith,
        text-unit_bytes tab (drop at text) (IsUtf8-drop text at utf8 h.boundary),
        length-drop at text,
        h.boundary.0,
      )

  -- what holds of the units up to a byte holds of those between
  pub span-units : (ss : List (ℕ × ℕ)) (high : ℕ)
      → ((p q : ℕ) → q ≤ high → is_needed ss p q ≡ false)
      → (from : ℕ) → IsCut tab text from → IsCut tab text high → from ≤ high
      → NoneNeeded ss from (units_between tab text from high)
  span-units ss high holds from f t order =
      each-among (λ p q. is_needed ss p q ≡ false) (text_units tab text) 0 high
      (λ us u vs e l h. holds (unit_bytes us) (unit_bytes us + u.bytes) h)
      (text_units tab (take from text)) (units_between tab text from high)
      (units_after tab text high) from (split-at from high f t order) (before-bytes from f)
      (omega arith) (omega (arith, between-bytes tab text from high utf8 f t order, order))

  -- what a span has of the units from one byte to another
  module _ (s : ℕ × ℕ) (start end : ℕ)
      (start-is : start ≡ start_of 0 s.0 (text_units tab text))
      (end-is : end ≡ end_of 0 s.1 (text_units tab text)) where
    -- those from one byte to another are in it
    pub span-inside : (xs ys : List (ℕ × ℕ)) → spans ≡ xs ++ s ∷ ys → (from to : ℕ)
        → IsCut tab text from
        → IsCut tab text to → from ≤ to
        → start ≤ from → to ≤ end → AllNeeded spans from (units_between tab text from to)
    span-inside xs ys split from to f t order low high =
        each-among (λ p q. is_needed spans p q ≡ true) (text_units tab text) start end
        (λ us u vs e l h.
        rw split
        (among-needed xs s ys (unit_bytes us) (unit_bytes us + u.bytes)
        ((span-unit s (text_units tab text) us u vs (units-have-bytes tab (chars text)) e).inside
        (omega (arith, l, start-is)) (omega (arith, h, end-is)))))
        (text_units tab (take from text)) (units_between tab text from to)
        (units_after tab text to) from
        (split-at from to f t order) (before-bytes from f) low
        (omega (arith, between-bytes tab text from to utf8 f t order, high, order))

    -- it has none of those after its end
    pub span-after : (at : ℕ) → IsCut tab text at → (end ≤ at) ⊎ (end ≤ start)
        → NoneNeeded (s ∷ []) at (units_after tab text at)
    span-after at h past =
        each-among (λ p q. is_needed (s ∷ []) p q ≡ false) (text_units tab text) at (length text)
        (λ us u vs e l h.
        one-needed s (unit_bytes us) (unit_bytes us + u.bytes) false
        (let one = span-unit s (text_units tab text) us u vs (units-have-bytes tab (chars text)) e
        in
        ⊎_elim
        (λ after. one.after (omega (arith, l, after, end-is)))
        (λ none. one.none (omega (arith, none, start-is, end-is)))
        past))
        (text_units tab (take at text)) (units_after tab text at) [] at
        (cut-whole tab text at utf8 h
        ∙ ap (λ us. text_units tab (take at text) ++ us)
        (sym (append-nil (units_after tab text at))))
        (before-bytes at h) (omega arith) (omega (arith, after-bytes at h))

  -- ---- the gap before a span

  pub nothing-between : (at : ℕ) → units_between tab text at at ≡ []
  nothing-between at =
      let none : at - at ≡ 0 = omega arith in
      rw none (ap (units_of tab) chars-nil)

  -- it is the part of its units, where there are any
  pub gap-units : (start end : ℕ) (before : Bool) → IsCut tab text start → IsCut tab text end
      → start ≤ end
      → gap_between tab text start end before
      ≡ gaps_from start (Gap (not (start == 0)) before (units_between tab text start end) ∷ [])
  gap-units start end before s e order =
      by_units (units_between tab text start end) refl
    where
      size : unit_bytes (units_between tab text start end) ≡ end - start
      size = between-bytes tab text start end utf8 s e order

      by_units : (us : List TextUnit) → units_between tab text start end ≡ us
          → gap_between tab text start end before
          ≡ gaps_from start (Gap (not (start == 0)) before (units_between tab text start end) ∷ [])
      by_units [] none =
          let same : end ≤ start = omega (arith, size, ap unit_bytes none) in
          rw (none, le-ltb start end same) refl
      by_units (u ∷ us) some =
          let bytes = subst HaveBytes some
          (units-have-bytes tab (chars (slice_range text start end)))
          in
          let more : start < end = omega (arith, size, ap unit_bytes some, bytes.0) in
          rw (some, lt-ltb start end more) refl

  -- ---- a step over a span

  -- what the parts from a byte on have, before those from the end of a span on
  pub record IsStep (shown from end : ℕ) : Type 0 where
    pub gaps : gaps_from shown (parts_after tab text spans shown)
        ≡ gaps_from shown (Gap (not (shown == 0)) true (units_between tab text shown from) ∷ [])
        ++ gaps_from end (parts_after tab text spans end)
    pub cells : needed_cells (parts_after tab text spans shown)
        ≡ unit_cells (units_between tab text from end)
        + needed_cells (parts_after tab text spans end)

  pub step-over : (shown from end : ℕ) → IsCut tab text shown → IsCut tab text from
      → IsCut tab text end
      → shown ≤ from → from < end → NoneNeeded spans shown (units_between tab text shown from)
      → AllNeeded spans from (units_between tab text from end) → IsStep shown from end
  step-over shown from end s f e order some none all =
      by_units (units_between tab text from end) refl
    where
      after : Bool
      after = not (shown == 0)

      low : shown + unit_bytes (units_between tab text shown from) ≡ from
      low = omega (arith, between-bytes tab text shown from utf8 s f order, order)

      high : from + unit_bytes (units_between tab text from end) ≡ end
      high = omega (arith, between-bytes tab text from end utf8 f e (omega (arith, some)), some)

      parts : parts_after tab text spans shown
          ≡ parts_from spans after (units_between tab text shown from) from
          (units_between tab text from end ++ units_after tab text end)
      parts =
          ap (parts_from spans after [] shown)
          (cut-between tab text shown from utf8 s f order
          ∙ ap (λ us. units_between tab text shown from ++ us)
          (cut-between tab text from end utf8 f e (omega (arith, some))))
          ∙ none-parts spans after [] shown from (units_between tab text shown from)
          (units_between tab text from end ++ units_after tab text end) low none

      later : parts_from spans true [] end (units_after tab text end)
          ≡ parts_after tab text spans end
      later = let test : (end == 0) ≡ false = ne_eqb end 0 (λ z. omega (arith, z, some)) in
          rw test refl

      by_units : (us : List TextUnit) → units_between tab text from end ≡ us → IsStep shown from end
      by_units [] none = absurd (omega (arith, high, ap unit_bytes none, some))
      by_units (u ∷ us) is = record {
        gaps =
            ap (gaps_from shown) parts
            ∙ ap (λ vs. gaps_from shown
            (parts_from spans after (units_between tab text shown from) from
            (vs ++ units_after tab text end)))
            is
            ∙ all-gaps spans after (units_between tab text shown from) shown from end u us
            (units_after tab text end) low (omega (arith, ap unit_bytes is, high))
            (subst (AllNeeded spans from) is all)
            ∙ ap (λ ps. gaps_from shown (Gap after true (units_between tab text shown from) ∷ [])
            ++ gaps_from end ps)
            later;
        cells =
            ap needed_cells parts
            ∙ ap (λ vs. needed_cells
            (parts_from spans after (units_between tab text shown from) from
            (vs ++ units_after tab text end)))
            is
            ∙ all-cells spans after (units_between tab text shown from) from end u us
            (units_after tab text end)
            (omega (arith, ap unit_bytes is, high)) (subst (AllNeeded spans from) is all)
            ∙ ap₂ (λ vs ps. unit_cells vs + needed_cells ps) (sym is) later;
      }
