-- The edits at sorted places are the edits in order, for the clause `sorted` of `sorted_places`.
use Rattle.codespan_core.proofs.Std.{◌≡◌, ℕ, suc, ◌<◌, ◌≤◌, Bool, false, List, []}
use Rattle.codespan_core.proofs.Std.{◌∷◌, ◌++◌, length, get_or, refl, sym, ap, ◌∙◌}
use Rattle.codespan_core.proofs.Std.{subst, arith, append-nil, drop, sum_by, IsStrictWeakOrder}
use Rattle.codespan_core.proofs.Std.{IsPermutation, IsSortedBy, drop_all, ranks_by, sorted_far}
use Rattle.codespan_core.proofs.Std.{IsPermutation-map, sum_by-IsPermutation}
use Rattle.codespan_edits.specs.Edits.{TextEdit, is_before, in_order, listed, listed_from}
use Rattle.codespan_edits.specs.Private.Places.{replacement_at, edit_at, edits_at}
use Rattle.codespan_edits.specs.declared.order.Place.{Place}
use Rattle.codespan_edits.proofs.OrderLemmas.{compare_total, NoneBefore, Ascends, ascends-in_order}
use Rattle.codespan_edits.proofs.OrderLemmas.{all-in_order, in_order-permutation, Sourced}
use Rattle.codespan_edits.proofs.OrderLemmas.{same_order}

-- whether the edit at one place is before that at another one
abbrev place_before : List TextEdit → Place → Place → Bool
place_before edits p q = is_before (edit_at edits p) (edit_at edits q)

-- no edit at the later places is before that at p
none-sorted : (edits : List TextEdit) (p : Place) (ps : List Place)
    → ((j : ℕ) → j < length ps → place_before edits (get_or ps j p) p ≡ false)
    → NoneBefore (edit_at edits p) (edits_at edits ps)
none-sorted edits p [] far = tt
none-sorted edits p (q ∷ qs) far =
    (far 0 (omega arith), none-sorted edits p qs (λ j h. far (suc j) (omega (arith, h))))

-- the edits at sorted places are in order
ascends-sorted : (edits : List TextEdit) (ps : List Place)
    → ((i j : ℕ) (d : Place) → i ≤ j → j < length ps
    → place_before edits (get_or ps j d) (get_or ps i d) ≡ false)
    → Ascends (edits_at edits ps)
ascends-sorted edits [] far = tt
ascends-sorted edits (p ∷ ps) far = (
  none-sorted edits p ps (λ j h. far 0 (suc j) p (omega arith) (omega (arith, h))),
  ascends-sorted edits ps (λ i j d h k. far (suc i) (suc j) d (omega (arith, h))
      (omega (arith, k))),
)

-- the edits at places have the list's replacements
sourced-places : (edits : List TextEdit) (ps : List Place) → Sourced edits (edits_at edits ps)
sourced-places edits [] = tt
sourced-places edits (p ∷ ps) = (refl, sourced-places edits ps)

-- the edits at sorted places, which are those of the list, are the list in order
pub sorted-in_order : (edits : List TextEdit) (ps qs : List Place) (i : ℕ) → length edits ≤ i
    → edits_at edits ps ++ listed_from i (drop i edits) ≡ listed edits → IsPermutation ps qs
    → IsSortedBy (λ p q. is_before (edit_at edits p) (edit_at edits q)) qs
    → edits_at edits qs ≡ in_order (listed edits)
sorted-in_order edits ps qs i past all moved up =
    let is : edits_at edits ps ≡ listed edits =
    sym (append-nil (edits_at edits ps))
    ∙ (ap (λ es. edits_at edits ps ++ listed_from i es) (sym (drop_all i edits past)) ∙ all) in
    let order : IsStrictWeakOrder (λ p q. is_before (edit_at edits p) (edit_at edits q)) =
    ranks_by compare_total (edit_at edits) in
    same_order edits (edits_at edits qs) (in_order (listed edits))
    (ascends-sorted edits qs (sorted_far (place_before edits) order qs up))
    (ascends-in_order (listed edits)) (sourced-places edits qs)
    (all-in_order (λ x. x.edit.replacement ≡ replacement_at edits x.index) (listed edits)
    (subst (Sourced edits) is (sourced-places edits ps)))
    (λ f. sum_by-IsPermutation f (edits_at edits ps) (edits_at edits qs)
    (IsPermutation-map (edit_at edits) ps qs moved)
    ∙ (ap (sum_by f) is
    ∙ sym (sum_by-IsPermutation f (listed edits) (in_order (listed edits))
    (in_order-permutation (listed edits)))))
