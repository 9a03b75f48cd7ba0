-- The edits of a list at the indices of their order, for the clause `order` of `order_of_edits`,
-- and for loops that go over that order.
use Rattle.codespan_core.proofs.Std.{◌≡◌, ℕ, ◌+◌, ◌<◌, ◌≤◌, List, []}
use Rattle.codespan_core.proofs.Std.{◌∷◌, map, length, drop, None, get_or, refl, sym, ap}
use Rattle.codespan_core.proofs.Std.{◌∙◌, arith, AllByRecursion, All-from_recursion}
use Rattle.codespan_core.proofs.Std.{drop_more, get_or-map, length-map, length-drop, get_or_default}
use Rattle.codespan_core.proofs.Std.{subst}
use Rattle.codespan_edits.specs.Edits.{TextEdit, ListedEdit, listed, listed_from, in_order, ordered}
use Rattle.codespan_edits.specs.Edits.{order_of}
use Rattle.codespan_edits.specs.Faults.{first_own_fault, fault}
use Rattle.codespan_edits.specs.Private.Places.{edits_at}
use Rattle.codespan_edits.specs.declared.order.Place.{Place}
use Rattle.codespan_edits.proofs.OrderLemmas.{all-in_order}
use Rattle.codespan_edits.proofs.FitLemmas.{FitsAlone, all_fit, neither}

-- the indices of places are those of the edits there
pub place-indices : (edits : List TextEdit) (ps : List Place)
    → map (λ (p : Place). p.index) ps ≡ map (λ (x : ListedEdit). x.index) (edits_at edits ps)
place-indices edits [] = refl
place-indices edits (p ∷ ps) = ap (λ (is : List ℕ). p.index ∷ is) (place-indices edits ps)

-- the edit is the one of the list that has its index
abbrev pub IsOfList : List TextEdit → ListedEdit → Type 0
IsOfList edits x =
    (x.index < length edits) × (get_or edits x.index x.edit ≡ x.edit)

-- edits at indices, of a list that has others before them
listed-of-list : (all : List TextEdit) (i : ℕ) (es : List TextEdit) → drop i all ≡ es
    → AllByRecursion (IsOfList all) (listed_from i es)
listed-of-list all i [] is = tt
listed-of-list all i (e ∷ es) is =
    let inside : i < length all =
    omega (arith, ap (λ (xs : List TextEdit). length xs) is, length-drop i all) in
    let here : drop i all ≡ get_or all i e ∷ drop (i + 1) all = drop_more all i e inside in
    let found : get_or all i e ≡ e = cc (here, is) in
    let later : drop (i + 1) all ≡ es = cc (here, is) in
    ((inside, found), listed-of-list all (i + 1) es later)

-- each edit in order is of the list
pub ordered-of-list : (edits : List TextEdit)
    → AllByRecursion (IsOfList edits) (in_order (listed edits))
ordered-of-list edits =
    all-in_order (IsOfList edits) (listed edits) (listed-of-list edits 0 edits refl)

-- the edit at an index of the order is the next edit in order
pub record IsNextEdit (text : List ℕ) (edits : List TextEdit) (k i : ℕ) : Type 0 where
  pub inside : i < length edits
  pub start : (d : TextEdit) → (get_or edits i d).start ≤ length text
  pub end : (d : TextEdit) → (get_or edits i d).end ≤ length text
  pub next : (d : TextEdit)
      → drop k (ordered edits) ≡ get_or edits i d ∷ drop (k + 1) (ordered edits)

-- of edits without a fault each is inside the text
pub next-edit : (text : List ℕ) (edits : List TextEdit) (order : List ℕ) (k : ℕ)
    → fault text edits ≡ None → order ≡ order_of edits → k < length order
    → IsNextEdit text edits k (get_or order k 0)
next-edit text edits order k none is inside =
    let xs = in_order (listed edits) in
    let i = get_or order k 0 in
    let listed-inside : k < length (map (λ (x : ListedEdit). x.index) xs) =
    subst (λ (js : List ℕ). k < length js) is inside in
    let within : k < length xs = rw length-map at listed-inside in
    let place : (d : TextEdit) → ListedEdit = λ d. record { index = 0; edit = d } in
    let at : (d : TextEdit) → i ≡ (get_or xs k (place d)).index =
    λ d. ap (λ (is : List ℕ). get_or is k 0) is
    ∙ get_or-map (λ (x : ListedEdit). x.index) xs k (place d) 0 within in
    let found : (d : TextEdit) → IsOfList edits (get_or xs k (place d)) =
    λ d. All-from_recursion (IsOfList edits) xs (ordered-of-list edits) k (place d) within in
    let edit-is : (d : TextEdit) → (get_or xs k (place d)).edit ≡ get_or edits i d =
    λ d. sym (found d).1
    ∙ get_or_default edits (get_or xs k (place d)).index _ d (found d).0
    ∙ ap (λ (j : ℕ). get_or edits j d) (sym (at d)) in
    let fits : (d : TextEdit) → FitsAlone text (get_or xs k (place d)) =
    λ d. All-from_recursion (FitsAlone text) xs
    (all-in_order (FitsAlone text) (listed edits)
    (all_fit text (listed edits)
    (neither (first_own_fault text (listed edits)) _ none).0)) k (place d) within in
    let none : TextEdit = record { start = 0; end = 0; replacement = [] } in
    record {
      inside = subst (λ (j : ℕ). j < length edits) (sym (at none)) (found none).0;
      start =
          λ d. subst (λ (e : TextEdit). e.start ≤ length text) (edit-is d) (fits d).start.0;
      end = λ d. subst (λ (e : TextEdit). e.end ≤ length text) (edit-is d) (fits d).end.0;
      next =
          λ d. drop_more (map (λ (x : ListedEdit). x.edit) xs) k d (rw length-map within)
          ∙ ap (λ (e : TextEdit). e ∷ drop (k + 1) (map (λ (x : ListedEdit). x.edit) xs))
          (get_or-map (λ (x : ListedEdit). x.edit) xs k (place d) d within ∙ edit-is d);
    }
