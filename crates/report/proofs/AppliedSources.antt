-- For the clauses of `rendering::applied_source`, and of `parsed_suggestion` and
-- `parsed_suggestions` of `script::suggestions`: the edits of a suggestion, as those of a text, and
-- the loop over the lines.
use Rattle.codespan_core.proofs.Std.{◌≡◌, ℕ, ◌+◌, ◌<◌, true, false, List, []}
use Rattle.codespan_core.proofs.Std.{◌∷◌, ◌++◌, length, map, drop, get_or, Option, Some}
use Rattle.codespan_core.proofs.Std.{None, refl, sym, ap, ◌∙◌, append_assoc, bytes_eq, codes}
use Rattle.codespan_core.proofs.Std.{drop_more, if◌then◌else◌, map-append, slice_get}
use Rattle.codespan_core.proofs.Std.{string_bytes}
use Rattle.codespan_edits.specs.Edits.{TextEdit, edited, text_edit, text_edits}
use Rattle.codespan_edits.specs.declared.edit.Edit.{Edit}
use Rattle.codespan_suggestions.specs.Views.{EditView, SuggestionView, edit_view, suggestion_view}
use Rattle.codespan_suggestions.specs.declared.suggestion.Applicability.TheVariants.{Unspecified}
use Rattle.codespan_suggestions.specs.declared.suggestion.Suggestion.{Suggestion}
use Rattle.report.specs.declared.script.Fault.{Fault}
use Rattle.report.specs.declared.script.ScriptError.{ScriptError}
use Rattle.report.specs.declared.script.ScriptError.TheVariants as errors
use Rattle.report.specs.declared.script.line.Line.{Line}
use Rattle.report.specs.RenderedTexts.{source_after}
use Rattle.report.specs.ScriptFaults.{IsScriptError, fault_from, or_fault}
use Rattle.report.specs.ScriptLines.{ScriptLineView, body, rest_of, script_line_view, script_lines}
use Rattle.report.specs.ScriptLines.{script_source, word_of}
use Rattle.report.specs.Scripts.{parsed_lines, parsed_script, parsed_statements}
use Rattle.report.specs.Suggestions.{IsFaultOrMemory, edit_lines, edits_fault, parsed_suggestion}
use Rattle.report.specs.Suggestions.{parsed_suggestions, suggestion_of, suggestions_fault}

-- edits of the one file are those of its text
pub edits_of_text : (edits : List (Edit (Unit {0})))
    → map (λ (edit : EditView (Unit {0})). edit.edit) (map edit_view edits) ≡ text_edits edits
edits_of_text [] = refl
edits_of_text (edit ∷ edits) = ap (λ es. text_edit edit ∷ es) (edits_of_text edits)

-- and the other way round
pub edits_of_file : (edits : List (Edit (Unit {0}))) (read : List TextEdit)
    → text_edits edits ≡ read
    → map edit_view edits ≡ map (λ (edit : TextEdit). record { file_id = tt; edit = edit })
    read
edits_of_file edits read is =
    viewed edits
    ∙ ap (map (λ (edit : TextEdit). record { file_id = tt; edit = edit })) is
  where
    viewed : (edits : List (Edit (Unit {0})))
        → map edit_view edits
        ≡ map (λ (edit : TextEdit). record { file_id = tt; edit = edit }) (text_edits edits)
    viewed [] = refl
    viewed (edit ∷ edits) = ap (λ es. edit_view edit ∷ es) (viewed edits)

-- the source after the edits of the first suggestion
pub after_first : (source : List ℕ) (suggestions : List (Suggestion (Unit {0})))
    (first : Suggestion (Unit {0})) → Some first ≡ slice_get suggestions 0
    → edited source (text_edits first.edits.items)
    ≡ source_after source (map suggestion_view suggestions)
after_first source [] first is = absurd (cc is)
after_first source (suggestion ∷ others) first is =
    let same : first ≡ suggestion = cc in
    ap (λ (s : Suggestion (Unit {0})). edited source (text_edits s.edits.items)) same
    ∙ ap (edited source) (sym (edits_of_text suggestion.edits.items))

-- a suggestion, as it is read from its message and its edits
pub suggestion_viewed : (suggestion : Suggestion (Unit {0})) (message : List ℕ)
    (read : List TextEdit)
    → string_bytes suggestion.message ≡ message → suggestion.applicability ≡ Unspecified
    → text_edits suggestion.edits.items ≡ read
    → suggestion_view suggestion ≡ suggestion_of message read
suggestion_viewed suggestion message read named sure edits =
    rw (named, sure, edits_of_file suggestion.edits.items read edits) refl

-- ---- the loop over the lines of a script, at one of them

module _ (source : List ℕ) (lines : List Line) (i : ℕ) (line : Line) (inside : i < length lines)
    (is : line ≡ get_or lines i line) where
  -- the lines after it
  abbrev pub later : List ScriptLineView
  later = map script_line_view (drop (i + 1) lines)

  next : map script_line_view (drop i lines) ≡ script_line_view line ∷ later
  next =
      ap (map script_line_view) (drop_more lines i line inside)
      ∙ ap (λ l. script_line_view l ∷ later) (sym is)

  -- it states no suggestion
  pub no_suggestion : bytes_eq (word_of (script_line_view line)) (codes "suggestion") ≡ false
      → parsed_suggestions (map script_line_view (drop i lines)) ≡ parsed_suggestions later
  no_suggestion other =
      ap parsed_suggestions next
      ∙ ap
      (λ b. if b then parsed_suggestion (rest_of (script_line_view line)) (edit_lines later)
      ∷ parsed_suggestions later else parsed_suggestions later)
      other

  pub no_suggestion_fault : bytes_eq (word_of (script_line_view line)) (codes "suggestion")
      ≡ false
      → suggestions_fault source (map script_line_view (drop i lines))
      ≡ suggestions_fault source later
  no_suggestion_fault other =
      ap (suggestions_fault source) next
      ∙ ap
      (λ b. if b then or_fault (edits_fault source (edit_lines later))
      (suggestions_fault source later) else suggestions_fault source later)
      other

  -- it states one
  pub one_suggestion : bytes_eq (word_of (script_line_view line)) (codes "suggestion") ≡ true
      → parsed_suggestions (map script_line_view (drop i lines))
      ≡ parsed_suggestion (rest_of (script_line_view line)) (edit_lines later)
      ∷ parsed_suggestions later
  one_suggestion same =
      ap parsed_suggestions next
      ∙ ap
      (λ b. if b then parsed_suggestion (rest_of (script_line_view line)) (edit_lines later)
      ∷ parsed_suggestions later else parsed_suggestions later)
      same

  pub one_suggestion_fault : bytes_eq (word_of (script_line_view line)) (codes "suggestion")
      ≡ true
      → suggestions_fault source (map script_line_view (drop i lines))
      ≡ or_fault (edits_fault source (edit_lines later)) (suggestions_fault source later)
  one_suggestion_fault same =
      ap (suggestions_fault source) next
      ∙ ap
      (λ b. if b then or_fault (edits_fault source (edit_lines later))
      (suggestions_fault source later) else suggestions_fault source later)
      same

  -- its suggestion is read
  pub suggestion_added : (old new : List (Suggestion (Unit {0})))
      (suggestion : Suggestion (Unit {0})) (all : List (SuggestionView (Unit {0})))
      → bytes_eq (word_of (script_line_view line)) (codes "suggestion") ≡ true
      → new ≡ old ++ suggestion ∷ []
      → suggestion_view suggestion
      ≡ parsed_suggestion (rest_of (script_line_view line)) (edit_lines later)
      → map suggestion_view old ++ parsed_suggestions (map script_line_view (drop i lines))
      ≡ all
      → map suggestion_view new ++ parsed_suggestions later ≡ all
  suggestion_added old new suggestion all same added viewed before =
      ap (λ ss. map suggestion_view ss ++ parsed_suggestions later) added
      ∙ ap (λ ss. ss ++ parsed_suggestions later)
      (map-append suggestion_view old (suggestion ∷ []))
      ∙ append_assoc (map suggestion_view old) (suggestion_view suggestion ∷ [])
      (parsed_suggestions later)
      ∙ ap (λ s. map suggestion_view old ++ s ∷ parsed_suggestions later) viewed
      ∙ ap (λ ss. map suggestion_view old ++ ss) (sym (one_suggestion same))
      ∙ before

  -- its edits have no error
  pub suggestion_fine : (all : Option Fault)
      → bytes_eq (word_of (script_line_view line)) (codes "suggestion") ≡ true
      → edits_fault source (edit_lines later) ≡ None
      → suggestions_fault source (map script_line_view (drop i lines)) ≡ all
      → suggestions_fault source later ≡ all
  suggestion_fine all same none before =
      ap (λ f. or_fault f (suggestions_fault source later)) (sym none)
      ∙ sym (one_suggestion_fault same) ∙ before

-- the error of the edits, as that of the script
pub suggestion_error : (input : List ℕ) (lines : List ScriptLineView) (source : List ℕ)
    (error : ScriptError) → lines ≡ body (script_lines input) → None ≡ fault_from [] lines
    → Some source ≡ script_source input (script_lines input)
    → IsFaultOrMemory (suggestions_fault source lines) error
    → IsScriptError (parsed_script input) error
unfolding parsed_script
suggestion_error input lines source (errors.Fault fault) are right found is =
    ap (λ ls. parsed_lines input ls (fault_from [] ls) (script_source input (script_lines input)))
    (sym are)
    ∙ ap (λ f. parsed_lines input lines f (script_source input (script_lines input))) (sym right)
    ∙ ap (parsed_lines input lines None) (sym found)
    ∙ ap (parsed_statements lines source) is
suggestion_error input lines source errors.OutOfMemory are right found is = tt
