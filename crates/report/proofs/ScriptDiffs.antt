-- For the clause of `rendering::script_diff`: the unified diff of a suggestion of one file.
use Rattle.codespan_core.proofs.Std.{◌≡◌, ℕ, List, [], ◌∷◌, map, flat_map, append-nil}
use Rattle.codespan_core.proofs.Std.{refl, sym, ap, subst, ◌∙◌, All, All-from_recursion, Some}
use Rattle.codespan_core.proofs.Std.{slice_get}
use Rattle.std.specs.Prelude.{IsSome}
use Rattle.codespan_core.specs.FileModel.{FileDatabase}
use Rattle.codespan_edits.specs.DrawnRows.{diff_hunks}
use Rattle.codespan_edits.specs.Edits.{TextEdit, text_edits}
use Rattle.codespan_edits.specs.declared.edit.Edit.{Edit}
use Rattle.codespan_output.specs.Lookups.{Failures}
use Rattle.codespan_suggestions.specs.UnifiedDiffs.{IsUnifiedDiff, file_patch, patch_context}
use Rattle.codespan_suggestions.specs.UnifiedDiffs.{patch_text}
use Rattle.codespan_suggestions.specs.Views.{suggestion_view}
use Rattle.codespan_suggestions.specs.declared.suggestion.Suggestion.{Suggestion}
use Rattle.codespan_suggestions.proofs.StatedNames.{stated-names}
use Rattle.report.specs.RenderedTexts.{diff_of_edits, first_diff}
use Rattle.report.proofs.AppliedSources.{edits_of_text}
use Rattle.report.proofs.OneFile.{all_edits, one_file, only_edited}

module _ (name source : List ℕ) (failure : Failures (Unit {0})) where
  abbrev database : FileDatabase (Unit {0})
  database = one_file name source failure

  -- the name of a file is stated
  abbrev IsNamed : Unit {0} → Type 0
  IsNamed id = IsSome (database.file id).name

  -- a text that is the unified diff of edits is that of the name and the source
  diff_text : (edits : List (Edit (Unit {0}))) (text : List ℕ)
      → IsUnifiedDiff database edits text
      → text ≡ diff_of_edits name source (text_edits edits)
  diff_text [] text is =
      is.2
      ∙ ap (flat_map (file_patch database []))
      (stated-names database [] (All-from_recursion IsNamed [] tt) is.0 is.1)
  diff_text (edit ∷ edits) text is =
      let one = only_edited edit edits in
      is.2
      ∙ ap (flat_map (file_patch database (edit ∷ edits)))
      (stated-names database (edit ∷ edits)
      (subst (All IsNamed) (sym one)
      (All-from_recursion IsNamed (edit.file_id ∷ []) (refl, tt)))
      is.0 is.1
      ∙ ap (map {B = Unit {0} × List ℕ} (λ (id : Unit {0}). (id, name))) one)
      ∙ append-nil (file_patch database (edit ∷ edits) (edit.file_id, name))
      ∙ ap (λ (es : List TextEdit). patch_text name (diff_hunks patch_context source es))
      (all_edits 0 (edit ∷ edits))

  -- that of the first suggestion of a script
  pub first_diff_text : (suggestions : List (Suggestion (Unit {0})))
      (first : Suggestion (Unit {0})) (text : List ℕ) → Some first ≡ slice_get suggestions 0
      → IsUnifiedDiff database first.edits.items text
      → text ≡ first_diff name source (map suggestion_view suggestions)
  first_diff_text [] first text is diff = absurd (cc is)
  first_diff_text (suggestion ∷ others) first text is diff =
      let same : first ≡ suggestion = cc in
      diff_text first.edits.items text diff
      ∙ ap (λ (s : Suggestion (Unit {0})). diff_of_edits name source (text_edits s.edits.items))
      same
      ∙ ap (diff_of_edits name source) (sym (edits_of_text suggestion.edits.items))
