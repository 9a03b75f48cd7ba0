-- Facts on the loops that put the text together, for the clauses of `apply`.
use Rattle.codespan_core.proofs.Std.{◌≡◌, ℕ, ◌+◌, ◌-◌, ◌<◌, ◌≤◌, List, []}
use Rattle.codespan_core.proofs.Std.{◌∷◌, ◌++◌, length, get_or, drop, refl, sym, ap}
use Rattle.codespan_core.proofs.Std.{◌∙◌, subst, arith, length-drop, length-append}
use Rattle.codespan_core.proofs.Std.{append_assoc, slice_range, string_bytes, get_or-map}
use Rattle.std.proofs.lemmas.List.{length-take}
use Rattle.codespan_edits.specs.Edits.{TextEdit, text_edit, text_edits, edited_from}
use Rattle.codespan_edits.specs.Private.Places.{edit_at, edits_at, replacement_at, FitFrom}
use Rattle.codespan_edits.specs.declared.edit.Edit.{Edit}
use Rattle.codespan_edits.specs.declared.order.Place.{Place}
use Rattle.codespan_edits.proofs.FaultLemmas.{at_place}

-- in the loop over places, at the one with the index i
module _ (text : List ℕ) (edits : List TextEdit) (ps : List Place) (i byte : ℕ) (d : Place)
    (inside : i < length ps) where
  -- it and what follows fit the text
  pub fit-here : FitFrom text byte (drop i (edits_at edits ps))
      → FitFrom text byte (edit_at edits (get_or ps i d) ∷ drop (i + 1) (edits_at edits ps))
  fit-here fit = subst (FitFrom text byte) (at_place edits ps i (i + 1) d inside refl) fit

  -- the text from here on
  pub text-here : edited_from text byte (drop i (edits_at edits ps))
      ≡ slice_range text byte (get_or ps i d).start
      ++ (replacement_at edits (get_or ps i d).index
      ++ edited_from text (get_or ps i d).end (drop (i + 1) (edits_at edits ps)))
  text-here = ap (edited_from text byte) (at_place edits ps i (i + 1) d inside refl)

-- the length of a part
length-part : (text : List ℕ) (a b : ℕ) → a ≤ b → b ≤ length text
    → length (slice_range text a b) ≡ b - a
length-part text a b h k = simp (length-take, length-drop) (omega arith)

-- the length of the text with one more part and replacement
pub length-more : (text : List ℕ) (a b : ℕ) (r left : List ℕ) (n m k : ℕ) (rest : List ℕ)
    (whole : ℕ)
    → a ≤ b → b ≤ length text → rest ≡ slice_range text a b ++ (r ++ left)
    → n + length rest ≡ whole → m ≡ n + (b - a) → k ≡ m + length r
    → k + length left ≡ whole
length-more text a b r left n m k rest whole from to is was first second =
    omega (
      arith,
      ap length is,
      length-append (slice_range text a b) (r ++ left),
      length-append r left,
      length-part text a b from to,
    )

-- the text with one more part and replacement, which were shown as slices
pub text-more : (done part r left rest shown put new newer whole : List ℕ)
    → rest ≡ part ++ (r ++ left) → done ++ rest ≡ whole → shown ≡ part → put ≡ r
    → new ≡ done ++ shown → newer ≡ new ++ put → newer ++ left ≡ whole
text-more done part r left rest shown put new newer whole is was p q first second =
    rw (second, first, p, q)
    (append_assoc (done ++ part) r left
    ∙ (append_assoc done part (r ++ left) ∙ (ap (λ xs. done ++ xs) (sym is) ∙ was)))

-- the replacement of an edit of the list
pub replacement-is : {FileId : Type 0} (edits : List (Edit FileId)) (k : ℕ) (x : Edit FileId)
    → k < length edits
    → string_bytes (get_or edits k x).replacement ≡ replacement_at (text_edits edits) k
replacement-is edits k x inside =
    ap (λ (e : TextEdit). e.replacement)
    (sym (get_or-map text_edit edits k x (record { start = 0; end = 0; replacement = [] }) inside))
