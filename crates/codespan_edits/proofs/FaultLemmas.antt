-- Facts on the loops that look for a fault, for the clauses of `order`.
use Rattle.codespan_core.proofs.Std.{◌≡◌, ℕ, ◌+◌, ◌-◌, ◌<◌, ◌≤◌, List, []}
use Rattle.codespan_core.proofs.Std.{◌∷◌, length, get_or, drop, map, Some, None, refl, sym}
use Rattle.codespan_core.proofs.Std.{ap, ◌∙◌, arith, length-drop, lt-ltb, le-ltb, drop_more}
use Rattle.codespan_core.proofs.Std.{drop-map}
use Rattle.std.specs.Option.{option_or}
use Rattle.std.proofs.Math.ListN.{length-map}
use Rattle.codespan_edits.specs.Edits.{TextEdit, ListedEdit, text_edit, text_edits, listed_from}
use Rattle.codespan_edits.specs.Faults.{own_fault, first_own_fault, neighbor_fault}
use Rattle.codespan_edits.specs.Private.Places.{edit_at, edits_at}
use Rattle.codespan_edits.specs.declared.edit.Edit.{Edit}
use Rattle.codespan_edits.specs.declared.error.EditError.{EditError}
use Rattle.codespan_edits.specs.declared.error.EditError.TheVariants.{Overlap}
use Rattle.codespan_edits.specs.declared.order.Place.{Place}

-- in the loop over a list of edits, at the edit x
module _ {FileId : Type 0} (text : List ℕ) (edits : List (Edit FileId)) (i : ℕ)
    (x : Edit FileId)
    (inside : i < length edits) (is : x ≡ get_or edits i x) where
  -- x is the next edit
  next : drop i (text_edits edits) ≡ text_edit x ∷ drop (i + 1) (text_edits edits)
  next =
      drop-map text_edit i edits
      ∙ (ap (map text_edit) (drop_more edits i x inside)
      ∙ (ap (λ y. text_edit y ∷ map text_edit (drop (i + 1) edits)) (sym is)
      ∙ ap (λ ys. text_edit x ∷ ys) (sym (drop-map text_edit (i + 1) edits))))

  -- the first own fault among it and what follows it
  first-next : first_own_fault text (listed_from i (drop i (text_edits edits)))
      ≡ option_or (own_fault text (record { index = i; edit = text_edit x }))
      (first_own_fault text (listed_from (i + 1) (drop (i + 1) (text_edits edits))))
  first-next = ap (λ es. first_own_fault text (listed_from i es)) next

  -- x has no fault of its own
  pub first-more : None ≡ own_fault text (record { index = i; edit = text_edit x })
      → first_own_fault text (listed_from i (drop i (text_edits edits)))
      ≡ first_own_fault text (listed_from (i + 1) (drop (i + 1) (text_edits edits)))
  first-more none =
      first-next
      ∙ ap (λ o. option_or o (first_own_fault text (listed_from (i + 1) (drop (i + 1) (text_edits
      edits)))))
      (sym none)

  -- or it has
  pub first-here : (e : EditError)
      → Some e ≡ own_fault text (record { index = i; edit = text_edit x })
      → first_own_fault text (listed_from i (drop i (text_edits edits))) ≡ Some e
  first-here e some =
      first-next
      ∙ ap (λ o. option_or o (first_own_fault text (listed_from (i + 1) (drop (i + 1) (text_edits
      edits)))))
      (sym some)

-- the edit at a place and the edits that follow
pub at_place : (edits : List TextEdit) (ps : List Place) (j k : ℕ) (d : Place) → j < length ps
    → k ≡ j + 1 → drop j (edits_at edits ps)
    ≡ edit_at edits (get_or ps j d) ∷ drop k (edits_at edits ps)
at_place edits ps j k d inside is =
    drop-map (edit_at edits) j ps
    ∙ (ap (map (edit_at edits)) (drop_more ps j d inside)
    ∙ (ap (λ ys. edit_at edits (get_or ps j d) ∷ ys)
    (sym (drop-map (edit_at edits) (j + 1) ps))
    ∙ ap (λ n. edit_at edits (get_or ps j d) ∷ drop n (edits_at edits ps)) (sym is)))

-- in the loop over places, at the one with the index i
module _ (edits : List TextEdit) (ps : List Place) (i : ℕ) (d : Place) (from : 1 ≤ i)
    (inside : i < length ps) where
  -- the place before it, the place, and what follows it
  both : drop (i - 1) (edits_at edits ps)
      ≡ edit_at edits (get_or ps (i - 1) d)
      ∷ (edit_at edits (get_or ps i d) ∷ drop (i + 1) (edits_at edits ps))
  both =
      at_place edits ps (i - 1) i d (omega arith) (omega arith)
      ∙ ap (λ xs. edit_at edits (get_or ps (i - 1) d) ∷ xs)
      (at_place edits ps i (i + 1) d inside refl)

  -- it overlaps with the place before it
  pub neighbor-here : (get_or ps i d).start < (get_or ps (i - 1) d).end
      → neighbor_fault (drop (i - 1) (edits_at edits ps))
      ≡ Some (Overlap (get_or ps i d).index (get_or ps (i - 1) d).index)
  neighbor-here overlap =
      ap neighbor_fault both
      ∙ rw (lt-ltb (get_or ps i d).start (get_or ps (i - 1) d).end overlap) refl

  -- or it does not
  pub neighbor-more : (get_or ps (i - 1) d).end ≤ (get_or ps i d).start
      → neighbor_fault (drop (i - 1) (edits_at edits ps))
      ≡ neighbor_fault (drop (i + 1 - 1) (edits_at edits ps))
  neighbor-more apart =
      ap neighbor_fault both
      ∙ (rw (le-ltb (get_or ps i d).start (get_or ps (i - 1) d).end apart) refl
      ∙ (ap neighbor_fault (sym (at_place edits ps i (i + 1) d inside refl))
      ∙ ap (λ n. neighbor_fault (drop n (edits_at edits ps))) (omega arith)))

-- fewer than two edits have no neighbors
neighbor-short : (xs : List ListedEdit) → length xs ≤ 1 → neighbor_fault xs ≡ None
neighbor-short [] short = refl
neighbor-short (x ∷ []) short = refl
neighbor-short (x ∷ (y ∷ ys)) short = absurd (omega (arith, short))

-- past the last place there are no more neighbors
pub neighbor-end : (edits : List TextEdit) (ps : List Place) (i : ℕ) → length ps ≤ i
    → neighbor_fault (drop (i - 1) (edits_at edits ps)) ≡ None
neighbor-end edits ps i past =
    neighbor-short (drop (i - 1) (edits_at edits ps)) (simp (length-drop, length-map) (omega arith))
