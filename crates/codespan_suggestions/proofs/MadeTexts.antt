-- For the clause of `laws::code_actions_make_texts`.
use Rattle.codespan_core.proofs.Std.{◌≡◌, ◌∙◌, ℕ, ◌≤◌, List, [], ◌∷◌, map, Option}
use Rattle.codespan_core.proofs.Std.{None, refl, sym, ap, ap₂, subst, arith, AllByRecursion}
use Rattle.codespan_core.proofs.Std.{AllZip, nat_tests, false}
use Rattle.codespan_core.specs.FileModel.{FileModel, Lookup}
use Rattle.codespan_core.specs.LawfulFiles.{IsLawful}
use Rattle.codespan_core.specs.declared.files.error.Error.{Error}
use Rattle.codespan_edits.specs.EditLaws.{edited_once, edited_backwards}
use Rattle.codespan_edits.specs.Edits.{TextEdit, ListedEdit, listed, in_order, is_before}
use Rattle.codespan_edits.proofs.OneByOne.{one-by-one}
use Rattle.codespan_edits.proofs.OrderLemmas.{Ascends, NoneBefore, ascends-in_order}
use Rattle.codespan_lsp.specs.Positions.{first_failure}
use Rattle.codespan_lsp.specs.declared.encoding.PositionEncoding.{PositionEncoding}
use Rattle.codespan_lsp.proofs.LawLemmas.{positions-return}
use Rattle.codespan_lsp.proofs.RangeLemmas.{found-on-line, neither}
use Rattle.codespan_suggestions.specs.CodeActions.{text_edit_of, edit_failure}
use Rattle.codespan_suggestions.specs.CodeActions.{ordered_of_file}
use Rattle.codespan_suggestions.specs.EditedFiles.{edits_of_file}
use Rattle.codespan_suggestions.specs.ActionLaws.{IsEditAt, made_backwards, InsertionsComeFirst}
use Rattle.codespan_suggestions.specs.ActionLaws.{CodeActionsMakeTexts}

-- edits in their order, made from the last to the first
backwards-same : (text : List ℕ) (xs : List ListedEdit)
    → made_backwards text (map (λ (x : ListedEdit). x.edit) xs) ≡ edited_backwards text xs
backwards-same text [] = refl
backwards-same text (x ∷ xs) =
    ap (λ (u : List ℕ). edited_once u x.edit) (backwards-same text xs)

-- an insertion is before what starts where it is
not-after : (x y : ListedEdit) → is_before y x ≡ false → y.edit.start ≡ x.edit.start
    → y.edit.end ≡ y.edit.start → x.edit.end ≤ x.edit.start
not-after x y none same insertion = grind (arith, nat_tests, none, same, insertion)

insertions-first : (xs : List ListedEdit) → Ascends xs
    → InsertionsComeFirst (map (λ (x : ListedEdit). x.edit) xs)
insertions-first [] up = tt
insertions-first (x ∷ xs) up = (each xs up.0, insertions-first xs up.1) where
  each : (ys : List ListedEdit) → NoneBefore x ys
      → AllByRecursion (λ (f : TextEdit). f.start ≡ x.edit.start → f.end ≡ f.start
      → x.edit.end ≤ x.edit.start) (map (λ (y : ListedEdit). y.edit) ys)
  each [] none = tt
  each (y ∷ ys) none =
      (λ same insertion. not-after x y none.0 same insertion, each ys none.1)

module _ (encoding : PositionEncoding) (f : FileModel) (law : IsLawful f)
    (failure : Lookup → Option Error) where
  -- the edit of a text edit, and no other
  edit-at : (e : TextEdit) → edit_failure encoding f failure e ≡ None
      → IsEditAt encoding f (text_edit_of encoding f e) e
  edit-at e none =
      let ends = neither _ _ none in record {
        start =
            (positions-return encoding f e.start law
            (found-on-line encoding f failure e.start ends.0)).is_at;
        end =
            (positions-return encoding f e.end law
            (found-on-line encoding f failure e.end ends.1)).is_at;
        text = refl;
      }

  same-edit : (e other : TextEdit) → edit_failure encoding f failure e ≡ None
      → IsEditAt encoding f (text_edit_of encoding f e) other → other ≡ e
  same-edit e other none at =
      let ends = neither _ _ none in
      let start = (positions-return encoding f e.start law
      (found-on-line encoding f failure e.start ends.0)).unique other.start at.start in
      let end = (positions-return encoding f e.end law
      (found-on-line encoding f failure e.end ends.1)).unique other.end at.end in
      by other.start e.start other.end e.end other.replacement e.replacement start end at.text
    where
      by : (a b c d : ℕ) (r s : List ℕ) → a ≡ b → c ≡ d → r ≡ s
          → ◌≡◌ {A = TextEdit} (record { start = a; end = c; replacement = r })
          (record { start = b; end = d; replacement = s })
      by a b c d r s p q h = rw (p, q, h) refl

  all-found : (es : List TextEdit)
      → first_failure (map (edit_failure encoding f failure) es) ≡ None
      → AllZip (IsEditAt encoding f) (map (text_edit_of encoding f) es) es
  all-found [] none = tt
  all-found (e ∷ es) none =
      let parts = neither (edit_failure encoding f failure e) _ none in
      (edit-at e parts.0, all-found es parts.1)

  all-same : (es others : List TextEdit)
      → first_failure (map (edit_failure encoding f failure) es) ≡ None
      → AllZip (IsEditAt encoding f) (map (text_edit_of encoding f) es) others → others ≡ es
  all-same [] [] none at = refl
  all-same [] (o ∷ os) none at = absurd at
  all-same (e ∷ es) [] none at = absurd at
  all-same (e ∷ es) (o ∷ os) none at =
      let parts = neither (edit_failure encoding f failure e) _ none in
      ap₂ (λ (x : TextEdit) (xs : List TextEdit). x ∷ xs) (same-edit e o parts.0 at.0)
      (all-same es os parts.1 at.1)

pub code-actions-make-texts : {Id : Type 0} → CodeActionsMakeTexts Id
code-actions-make-texts {Id} encoding database edits id law fine none =
    let f = database.file id in
    let failure = database.failure id in
    let own = edits_of_file database.same edits id in
    let es = ordered_of_file encoding database edits id in
    record {
      found = (es, all-found encoding f law failure es none);
      made = λ others at.
          ap (made_backwards f.text) (all-same encoding f law failure es others none at)
          ∙ (backwards-same f.text (in_order (listed own)) ∙ one-by-one f.text own fine);
      ordered = λ others at.
          subst InsertionsComeFirst (sym (all-same encoding f law failure es others none at))
          (insertions-first (in_order (listed own)) (ascends-in_order (listed own)));
    }
