-- The texts of the files that a suggestion edits, one after another, for the clause `texts` of
-- `apply_suggestion`.
use Rattle.codespan_core.proofs.Std.{◌≡◌, ◌++◌, ◌+◌, ◌<◌, ℕ, List, []}
use Rattle.codespan_core.proofs.Std.{◌∷◌, map, drop, length, get_or, sym, ◌∙◌, ap}
use Rattle.codespan_core.proofs.Std.{arith, common_steps, drop_more, string_bytes}
use Rattle.std.specs.Prelude.{String, Vec}
use Rattle.std.specs.Global.{Global}
use Rattle.codespan_core.specs.FileModel.{FileDatabase}
use Rattle.codespan_edits.specs.declared.edit.Edit.{Edit}
use Rattle.codespan_suggestions.specs.EditedFiles.{edited_text, texts_view}

module _ {Id : Type 0} (database : FileDatabase Id) (edits : List (Edit Id)) (items : List Id)
    (i : ℕ) (x : Id) (inside : i < length items) (is : x ≡ get_or items i x) where
  -- the file is the next one
  next : drop i items ≡ x ∷ drop (i + 1) items
  next = drop_more items i x inside ∙ ap (λ (y : Id). y ∷ drop (i + 1) items) (sym is)

  -- its text is added
  pub texts-more : (texts new : Vec (Id × String Global) Global) (text : String Global)
      (all : List (Id × List ℕ))
      → new.items ≡ texts.items ++ (x, text) ∷ []
      → string_bytes text ≡ edited_text database edits x
      → texts_view texts
      ++ map (λ (id : Id). (id, edited_text database edits id)) (drop i items) ≡ all
      → texts_view new
      ++ map (λ (id : Id). (id, edited_text database edits id)) (drop (i + 1) items) ≡ all
  texts-more texts new text all added made was =
      let then = next in
      grind (arith, common_steps, then, added, made, was)
