-- For the clause of `laws::same_output_makes_same_texts`.
use Rattle.codespan_core.proofs.Std.{◌≡◌, ◌∙◌, ℕ, List, [], ◌∷◌, map, Option, Some, sym, ap}
use Rattle.codespan_core.proofs.Std.{ap₂, refl, subst, unwrap_or, AllByRecursion, AllZip}
use Rattle.codespan_core.specs.FileModel.{FileDatabase}
use Rattle.codespan_core.specs.Streams.{text_of}
use Rattle.codespan_output.specs.Types.{Config}
use Rattle.codespan_edits.specs.DrawnRows.{diff_hunks}
use Rattle.codespan_edits.specs.HunkLaws.{rows_of_hunks}
use Rattle.codespan_edits.specs.Numbers.{NumberedRow}
use Rattle.codespan_suggestions.specs.DrawnFiles.{context_of}
use Rattle.codespan_suggestions.specs.EditedFiles.{edited_text}
use Rattle.codespan_suggestions.specs.ReadOutput.{RowRead, output_read}
use Rattle.codespan_suggestions.specs.ReadingLaws.{AreGiven, HasNoTab, edits_in, shown_files}
use Rattle.codespan_suggestions.specs.ReadingLaws.{SameOutputMakesSameTexts}
use Rattle.codespan_suggestions.specs.SuggestionOutput.{suggestion_stream}
use Rattle.codespan_suggestions.specs.declared.suggestion.Suggestion.{Suggestion}
use Rattle.codespan_suggestions.proofs.ReadOutputs.{sources-and-output-give-texts}

same-value : (a b : List ℕ) → ◌≡◌ {A = Option (List ℕ)} (Some a) (Some b) → a ≡ b
same-value a b is = ap (λ (o : Option (List ℕ)). unwrap_or o []) is

module _ {Id : Type 0} (config : Config) (database : FileDatabase Id) where
  abbrev Given : Suggestion Id → Id → List RowRead → Type 0
  Given s id rows =
      AreGiven config.tab_width (context_of config) (database.file id).text
      (edits_in config database s id) rows

  abbrev NoTabs : Suggestion Id → Id → Type 0
  NoTabs s id =
      AllByRecursion (λ (r : NumberedRow). HasNoTab r.row.line)
      (rows_of_hunks
      (diff_hunks (context_of config) (database.file id).text (edits_in config database s id)))

  -- the same rows give the same texts
  texts-same : (s t : Suggestion Id) (ids : List Id) (files : List (List RowRead))
      → AllZip (Given s) ids files → AllZip (Given t) ids files
      → AllByRecursion (NoTabs s) ids → AllByRecursion (NoTabs t) ids
      → map (edited_text database s.edits.items) ids ≡ map (edited_text database t.edits.items) ids
  texts-same s t [] [] a b m n = refl
  texts-same s t [] (f ∷ fs) a b m n = absurd a
  texts-same s t (x ∷ xs) [] a b m n = absurd a
  texts-same s t (x ∷ xs) (f ∷ fs) a b m n =
      ap₂ (λ (u : List ℕ) (us : List (List ℕ)). u ∷ us)
      (same-value _ _ (sym (a.0.bytes m.0) ∙ b.0.bytes n.0))
      (texts-same s t xs fs a.1 b.1 m.1 n.1)

pub same-output-makes-same-texts : {Id : Type 0} → SameOutputMakesSameTexts Id
same-output-makes-same-texts {Id} config database s t rich ok one two shown same =
    let files = output_read config.chars (text_of (suggestion_stream config database s)) in
    let first : AllZip (Given config database s) (shown_files config database s) files =
    sources-and-output-give-texts config database s rich ok one.message one.files in
    let second : AllZip (Given config database t) (shown_files config database t)
    (output_read config.chars (text_of (suggestion_stream config database t))) =
    sources-and-output-give-texts config database t rich ok two.message two.files in
    let moved : AllZip (Given config database t) (shown_files config database s) files =
    subst (λ ids. AllZip (Given config database t) ids files) shown
    (subst (λ (text : List ℕ). AllZip (Given config database t) (shown_files config database t)
    (output_read config.chars text)) (sym same) second) in
    texts-same config database s t (shown_files config database s) files first moved
    one.no_tabs (subst (AllByRecursion (NoTabs config database t)) shown two.no_tabs)
