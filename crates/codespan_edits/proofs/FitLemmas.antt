-- Edits without a fault fit their text, for what `put_together` requires.
use Rattle.codespan_core.proofs.Std.{◌≡◌, ℕ, zero, suc, ◌+◌, ◌<◌, ◌≤◌, Bool}
use Rattle.codespan_core.proofs.Std.{true, false, List, [], ◌∷◌, length, Option, Some, None}
use Rattle.codespan_core.proofs.Std.{if◌then◌else◌, refl, sym, subst, arith, All, nat_lt, not}
use Rattle.codespan_core.proofs.Std.{AllByRecursion, IsCharBoundary, nat_tests, ltb-false}
use Rattle.std.specs.Option.{option_or}
use Rattle.codespan_core.specs.Lines.{is_char_boundary}
use Rattle.codespan_edits.specs.Edits.{TextEdit, ListedEdit, in_order, listed, listed_from}
use Rattle.codespan_edits.specs.Faults.{own_fault, first_own_fault, neighbor_fault, fault}
use Rattle.codespan_edits.specs.Private.Places.{edits_at, FitFrom}
use Rattle.codespan_edits.specs.declared.error.EditError.{EditError}
use Rattle.codespan_edits.specs.declared.order.Place.{Place}
use Rattle.codespan_edits.proofs.OrderLemmas.{all-in_order}

-- neither of two choices is there
pub neither : (a b : Option EditError) → option_or a b ≡ None → (a ≡ None) × (b ≡ None)
neither None b h = (refl, h)
neither (Some e) b h = absurd (cc)

-- a boundary by its test
boundary : (text : List ℕ) (i : ℕ) → is_char_boundary text i ≡ true → IsCharBoundary text
    i
boundary text i h = grind (arith, nat_tests, h)

-- an edit by itself fits the text
pub record FitsAlone (text : List ℕ) (x : ListedEdit) : Type 0 where
  pub ordered : x.edit.start ≤ x.edit.end
  pub start : IsCharBoundary text x.edit.start
  pub end : IsCharBoundary text x.edit.end

-- four tests of which each could be an error
pub tests-pass : (reversed past start end : Bool) (a b c d : EditError)
    → (if reversed then Some a
    else if past then Some b else if not start then Some c else if not end then Some d else None)
    ≡ None
    → (reversed ≡ false) × (past ≡ false) × (start ≡ true) × (end ≡ true)
tests-pass true past start end a b c d h = absurd (cc)
tests-pass false true start end a b c d h = absurd (cc)
tests-pass false false false end a b c d h = absurd (cc)
tests-pass false false true false a b c d h = absurd (cc)
tests-pass false false true true a b c d h = (refl, refl, refl, refl)

-- so does an edit without a fault of its own
fits_alone : (text : List ℕ) (x : ListedEdit) → own_fault text x ≡ None → FitsAlone text x
fits_alone text x h =
    let parts = tests-pass (nat_lt x.edit.end x.edit.start) (nat_lt (length text) x.edit.end)
    (is_char_boundary text x.edit.start) (is_char_boundary text x.edit.end) _ _ _ _ h in
    record {
      ordered = ltb-false x.edit.end x.edit.start parts.0;
      start = boundary text x.edit.start parts.2;
      end = boundary text x.edit.end parts.3;
    }

-- and so do all edits if none has a fault of its own
pub all_fit : (text : List ℕ) (xs : List ListedEdit) → first_own_fault text xs ≡ None
    → AllByRecursion (FitsAlone text) xs
all_fit text [] h = tt
all_fit text (x ∷ xs) h =
    let parts = neither (own_fault text x) (first_own_fault text xs) h in
    (fits_alone text x parts.0, all_fit text xs parts.1)

-- two neighbors that do not overlap, and the edits from the second one on
apart : (b : Bool) (e : EditError) (o : Option EditError) → (if b then Some e else o) ≡ None
    → (b ≡ false) × (o ≡ None)
apart true e o h = absurd (cc)
apart false e o h = (refl, h)

-- edits that fit the text each and whose neighbors do not overlap fit it from the first one on
fit-next : (text : List ℕ) (byte : ℕ) (x : ListedEdit) (xs : List ListedEdit)
    → byte ≤ x.edit.start → AllByRecursion (FitsAlone text) (x ∷ xs)
    → neighbor_fault (x ∷ xs) ≡ None → FitFrom text byte (x ∷ xs)
fit-next text byte x [] from all none =
    (from, all.0.ordered, all.0.start, all.0.end, all.0.end.0)
fit-next text byte x (y ∷ ys) from all none =
    let parts = apart (nat_lt y.edit.start x.edit.end) _ (neighbor_fault (y ∷ ys)) none in (
      from,
      all.0.ordered,
      all.0.start,
      all.0.end,
      fit-next text x.edit.end y ys (ltb-false y.edit.start x.edit.end parts.0) all.1 parts.1,
    )

-- so they fit it from the start
fit-start : (text : List ℕ) (xs : List ListedEdit) → AllByRecursion (FitsAlone text) xs
    → neighbor_fault xs ≡ None → FitFrom text 0 xs
fit-start text [] all none = omega arith
fit-start text (x ∷ xs) all none = fit-next text 0 x xs (omega arith) all none

-- the edits of a list without a fault fit the text in their order
pub fit-in_order : (text : List ℕ) (edits : List TextEdit) → fault text edits ≡ None
    → FitFrom text 0 (in_order (listed edits))
fit-in_order text edits none =
    let parts = neither (first_own_fault text (listed edits)) _ none in
    fit-start text (in_order (listed edits))
    (all-in_order (FitsAlone text) (listed edits) (all_fit text (listed edits) parts.0)) parts.1

-- the indices of a list's edits are below its length
indices-below : (i n : ℕ) (edits : List TextEdit) → i + length edits ≤ n
    → AllByRecursion (λ x. x.index < n) (listed_from i edits)
indices-below i n [] h = tt
indices-below i n (e ∷ es) h = (omega (arith, h), indices-below (i + 1) n es (omega (arith, h)))

-- so are those of places
places-below : (edits : List TextEdit) (n : ℕ) (ps : List Place)
    → AllByRecursion (λ x. x.index < n) (edits_at edits ps) → All (λ p. p.index < n) ps
places-below edits n [] all k d h = absurd (omega (arith, h))
places-below edits n (p ∷ ps) all zero d h = all.0
places-below edits n (p ∷ ps) all (suc k) d h = places-below edits n ps all.1 k d
    (omega (arith, h))

-- the places of the edits in order have indices of the list, which has n edits
pub places-listed : (edits : List TextEdit) (n : ℕ) (ps : List Place) → length edits ≤ n
    → edits_at edits ps ≡ in_order (listed edits) → All (λ p. p.index < n) ps
places-listed edits n ps h is =
    places-below edits n ps
    (subst (AllByRecursion (λ (x : ListedEdit). x.index < n)) (sym is)
    (all-in_order (λ x. x.index < n) (listed edits) (indices-below 0 n edits (omega (arith, h)))))
