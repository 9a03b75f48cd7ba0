-- Edits that are of a list, for the clause of `laws::order_matters_to_insertions`.
use Rattle.codespan_core.proofs.Std.{◌≡◌, ℕ, zero, suc, ◌<◌, Bool, true, false, cond}
use Rattle.codespan_core.proofs.Std.{List, [], ◌∷◌, length, get_or, inl, inr, sym, ap}
use Rattle.codespan_core.proofs.Std.{◌∙◌, arith, ◌⊎◌, Contains, filter, IsPermutation}
use Rattle.std.proofs.lemmas.List.Sorted.{Contains-permutation}
use Rattle.codespan_edits.specs.Edits.{TextEdit}

-- an edit is one of a list
abbrev pub IsMember : TextEdit → List TextEdit → Type 0
IsMember e [] = ⊥
IsMember e (f ∷ fs) = (e ≡ f) ⊎ IsMember e fs

-- the edit at an index is one of the list
pub member-at : (es : List TextEdit) (e : TextEdit) (k : ℕ) → k < length es
    → get_or es k e ≡ e
    → IsMember e es
member-at [] e k h is = absurd (omega (arith, h))
member-at (f ∷ fs) e zero h is = inl (sym is)
member-at (f ∷ fs) e (suc k) h is = inr (member-at fs e k (omega (arith, h)) is)

-- and one of the list is at an index
contains-member : (es : List TextEdit) (e : TextEdit) → IsMember e es → Contains es e
contains-member [] e m = absurd m
contains-member (f ∷ fs) e (inl is) = (0, omega arith, sym is)
contains-member (f ∷ fs) e (inr m) =
    let c = contains-member fs e m in (suc c.0, omega (arith, c.1), c.2)

-- an edit of a list is one of each permutation
pub member-moved : (es fs : List TextEdit) → IsPermutation es fs → (e : TextEdit)
    → IsMember e es
    → IsMember e fs
member-moved es fs moved e m =
    let c = Contains-permutation es fs e moved (contains-member es e m) in member-at fs e c.0 c.1
    c.2

-- an edit that passes a test is one of those that pass it
pub member-filter : (test : TextEdit → Bool) (e : TextEdit) (es : List TextEdit)
    → test e ≡ true
    → IsMember e es → IsMember e (filter test es)
member-filter test e [] passes m = m
member-filter test e (f ∷ fs) passes (inl is) =
    rw (ap test (sym is) ∙ passes) (inl is)
member-filter test e (f ∷ fs) passes (inr m) = by_test (member-filter test e fs passes m) (test f)
  where
    by_test : IsMember e (filter test fs) → (b : Bool)
        → IsMember e (cond b (f ∷ filter test fs) (filter test fs))
    by_test rest true = inr rest
    by_test rest false = rest

-- and those are of the list
pub filter-member : (test : TextEdit → Bool) (e : TextEdit) (es : List TextEdit)
    → IsMember e (filter test es) → IsMember e es
filter-member test e [] m = m
filter-member test e (f ∷ fs) m = by_test (filter-member test e fs) (test f) m where
  by_test : (IsMember e (filter test fs) → IsMember e fs) → (b : Bool)
      → IsMember e (cond b (f ∷ filter test fs) (filter test fs)) → IsMember e (f ∷ fs)
  by_test rest true (inl is) = inl is
  by_test rest true (inr m) = inr (rest m)
  by_test rest false m = inr (rest m)
