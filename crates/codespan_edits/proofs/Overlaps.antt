-- Overlaps are between neighbors if anywhere, for the clause of `laws::overlaps_are_found`.
use Rattle.codespan_core.proofs.Std.{◌≡◌, ℕ, ◌+◌, ◌≤◌, Bool, true, false, List}
use Rattle.codespan_core.proofs.Std.{[], ◌∷◌, None, refl, arith, nat_lt, ◌&&◌}
use Rattle.codespan_core.proofs.Std.{AllByRecursion, nat_cmp, ordering_then, is_lt, nat_tests}
use Rattle.codespan_core.proofs.Std.{le-ltb, IsPermutation-sym}
use Rattle.std.specs.List.{IsDistinct}
use Rattle.std.proofs.lemmas.Map.Keys.{IsDistinct-IsPermutation}
use Rattle.codespan_edits.specs.Edits.{TextEdit, ListedEdit, in_order, listed, listed_from}
use Rattle.codespan_edits.specs.Faults.{first_own_fault, neighbor_fault, fault}
use Rattle.codespan_edits.specs.EditLaws.{are_overlapping, AreApart, OverlapsAreFound}
use Rattle.codespan_edits.specs.Private.Places.{FitFrom}
use Rattle.codespan_edits.proofs.OrderLemmas.{Ascends, ascends-in_order, all-in_order, all-listed}
use Rattle.codespan_edits.proofs.OrderLemmas.{in_order-permutation}
use Rattle.codespan_edits.proofs.FitLemmas.{FitsAlone, all_fit, fit-in_order}

-- whether two edits of a list overlap
abbrev overlap : ListedEdit → ListedEdit → Bool
overlap x y = are_overlapping x.edit y.edit

-- the two may be exchanged
pub flips : (e f : TextEdit) → are_overlapping e f ≡ are_overlapping f e
flips e f = and-comm (nat_lt e.start f.end) (nat_lt f.start e.end) where
  and-comm : (a b : Bool) → (a && b) ≡ (b && a)
  and-comm true true = refl
  and-comm true false = refl
  and-comm false true = refl
  and-comm false false = refl

-- an edit that ends where another starts, or before, does not overlap it
apart-by : (x y : ListedEdit) → x.edit.end ≤ y.edit.start → overlap x y ≡ false
apart-by x y h = grind (arith, nat_tests, h)

-- edits that fit a text from a byte on start there or later
starts-after : (text : List ℕ) (byte first : ℕ) (xs : List ListedEdit) → first ≤ byte
    → FitFrom text byte xs → AllByRecursion (λ x. first ≤ x.edit.start) xs
starts-after text byte first [] h fit = tt
starts-after text byte first (x ∷ xs) h fit = (
  omega (arith, fit.0),
  starts-after text x.edit.end first xs (omega (arith, fit.0, fit.1))
      fit.4,
)

-- what starts after an edit's end does not overlap it
none-overlap : (x : ListedEdit) (xs : List ListedEdit)
    → AllByRecursion (λ y. x.edit.end ≤ y.edit.start) xs
    → AllByRecursion (λ y. overlap x y ≡ false) xs
none-overlap x [] all = tt
none-overlap x (y ∷ ys) all = (apart-by x y all.0, none-overlap x ys all.1)

-- so no two of edits that fit overlap
distinct-fit : (text : List ℕ) (byte : ℕ) (xs : List ListedEdit) → FitFrom text byte xs
    → IsDistinct overlap xs
unfolding IsDistinct
distinct-fit text byte [] fit = tt
distinct-fit text byte (x ∷ xs) fit = (
  none-overlap x xs (starts-after text x.edit.end x.edit.end xs (omega arith) fit.4),
  distinct-fit text x.edit.end xs fit.4,
)

-- of two edits in order that do not overlap the first ends where the other starts, or before
ordered-apart : (a b c d i j : ℕ)
    → is_lt (ordering_then (nat_cmp c a) (ordering_then (nat_cmp d b) (nat_cmp j i))) ≡ false
    → (nat_lt a d && nat_lt c b) ≡ false → a ≤ b → c ≤ d → b ≤ c
ordered-apart a b c d i j h k p q = grind (arith, nat_tests)

-- where no two edits overlap, no two neighbors do
neighbors-apart : (text : List ℕ) (xs : List ListedEdit) → Ascends xs
    → AllByRecursion (FitsAlone text) xs → IsDistinct overlap xs → neighbor_fault xs ≡ None
unfolding IsDistinct
neighbors-apart text [] up fit apart = refl
neighbors-apart text (x ∷ []) up fit apart = refl
neighbors-apart text (x ∷ (y ∷ ys)) up fit apart =
    rw (le-ltb y.edit.start x.edit.end
    (ordered-apart x.edit.start x.edit.end y.edit.start y.edit.end x.index y.index up.0.0 apart.0.0
    fit.0.ordered fit.1.0.ordered))
    (neighbors-apart text (y ∷ ys) up.1 fit.1 apart.1)

-- what one edit does to those of a list with indices it does to those without
all-unlisted : (e : TextEdit) (i k : ℕ) (es : List TextEdit)
    → AllByRecursion (λ y. overlap (record { index = i; edit = e }) y ≡ false)
    (listed_from k es)
    → AllByRecursion (λ f. are_overlapping e f ≡ false) es
all-unlisted e i k [] all = tt
all-unlisted e i k (f ∷ fs) all = (all.0, all-unlisted e i (k + 1) fs all.1)

-- edits overlap with indices as they do without
distinct-listed : (i : ℕ) (es : List TextEdit) → AreApart es → IsDistinct overlap
    (listed_from i es)
unfolding IsDistinct
distinct-listed i [] apart = tt
distinct-listed i (e ∷ es) apart = (
  all-listed (λ f. are_overlapping e f ≡ false) (i + 1) es apart.0,
  distinct-listed (i + 1) es apart.1,
)

distinct-unlisted : (i : ℕ) (es : List TextEdit) → IsDistinct overlap (listed_from i es) →
    AreApart es
unfolding IsDistinct
distinct-unlisted i [] apart = tt
distinct-unlisted i (e ∷ es) apart =
    (all-unlisted e i (i + 1) es apart.0, distinct-unlisted (i + 1) es apart.1)

-- no two edits of a list without a fault overlap
pub apart-from_none : (text : List ℕ) (edits : List TextEdit) → fault text edits ≡ None
    → AreApart edits
apart-from_none text edits none =
    distinct-unlisted 0 edits
    (IsDistinct-IsPermutation overlap (λ x y. flips x.edit y.edit) (in_order (listed edits))
    (listed edits)
    (IsPermutation-sym (listed edits) (in_order (listed edits))
    (in_order-permutation (listed edits)))
    (distinct-fit text 0 (in_order (listed edits)) (fit-in_order text edits none)))

-- and there is none where no edit has one of its own and no two overlap
pub none-from_apart : (text : List ℕ) (edits : List TextEdit)
    → first_own_fault text (listed edits) ≡ None → AreApart edits → fault text edits ≡
    None
none-from_apart text edits own apart =
    rw own
    (neighbors-apart text (in_order (listed edits)) (ascends-in_order (listed edits))
    (all-in_order (FitsAlone text) (listed edits) (all_fit text (listed edits) own))
    (IsDistinct-IsPermutation overlap (λ x y. flips x.edit y.edit) (listed edits)
    (in_order (listed edits))
    (in_order-permutation (listed edits)) (distinct-listed 0 edits apart)))

pub overlaps-are-found : OverlapsAreFound
overlaps-are-found text edits own = (apart-from_none text edits, none-from_apart text edits own)
