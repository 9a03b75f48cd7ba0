-- The edit of a file that a loop over their order comes to, for the clauses of `fix_it` and
-- `action`.
use Rattle.codespan_core.proofs.Std.{◌≡◌, ℕ, ◌+◌, ◌<◌, ◌≤◌, List, ◌∷◌}
use Rattle.codespan_core.proofs.Std.{length, drop, get_or, None, sym, ap, ◌∙◌, subst}
use Rattle.codespan_core.proofs.Std.{length-map, get_or-map}
use Rattle.codespan_edits.specs.Edits.{TextEdit, text_edit, text_edits, ordered, order_of}
use Rattle.codespan_edits.specs.Faults.{fault}
use Rattle.codespan_edits.specs.declared.edit.Edit.{Edit}
use Rattle.codespan_edits.proofs.OrderedEdits.{IsNextEdit, next-edit}

module _ {FileId : Type 0} (text : List ℕ) (edits : List (Edit FileId)) (order : List ℕ)
    (k : ℕ)
    (none : fault text (text_edits edits) ≡ None) (is : order ≡ order_of (text_edits edits))
    (within : k < length order) where
  here : IsNextEdit text (text_edits edits) k (get_or order k 0)
  here = next-edit text (text_edits edits) order k none is within

  -- it is one of the list
  pub edit-inside : get_or order k 0 < length edits
  edit-inside = rw length-map at here.inside

  module _ (x : Edit FileId) (at : x ≡ get_or edits (get_or order k 0) x) where
    found : get_or (text_edits edits) (get_or order k 0) (text_edit x) ≡ text_edit x
    found =
        get_or-map text_edit edits (get_or order k 0) x (text_edit x) edit-inside
        ∙ ap text_edit (sym at)

    -- it starts and ends in the text
    pub edit-start : x.range.start ≤ length text
    edit-start =
        subst (λ (e : TextEdit). e.start ≤ length text) found (here.start (text_edit x))

    pub edit-end : x.range.end ≤ length text
    edit-end = subst (λ (e : TextEdit). e.end ≤ length text) found (here.end (text_edit x))

    -- it is the next one in order
    pub edit-next : drop k (ordered (text_edits edits))
        ≡ text_edit x ∷ drop (k + 1) (ordered (text_edits edits))
    edit-next =
        here.next (text_edit x)
        ∙ ap (λ (e : TextEdit). e ∷ drop (k + 1) (ordered (text_edits edits))) found
