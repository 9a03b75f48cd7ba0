-- For the clause of `laws::shown_is_made`: the rows that an output shows are those of the hunks.
use Rattle.codespan_core.proofs.Std.{◌≡◌, ◌∙◌, ◌++◌, ◌∷◌, [], ℕ, List, Bool}
use Rattle.codespan_core.proofs.Std.{true, false, ap, refl, map, flat_map, flat_map-append}
use Rattle.codespan_core.proofs.Std.{if◌then◌else◌, bytes_eq}
use Rattle.codespan_edits.specs.Diffs.{lines}
use Rattle.codespan_edits.specs.Numbers.{NumberedRow}
use Rattle.codespan_edits.specs.Patches.{patched}
use Rattle.codespan_edits.specs.HunkLaws.{rows_of_hunks}
use Rattle.codespan_edits.specs.DrawnRows.{diff_hunks}
use Rattle.codespan_edits.proofs.HunkPatches.{hunks-are-patch}
use Rattle.codespan_suggestions.specs.DrawnText.{line_end, usual_end}
use Rattle.codespan_suggestions.specs.SuggestionRows.{end_rows, line_rows, hunk_rows, separated}
use Rattle.codespan_suggestions.specs.SuggestionRows.Row.{BreakRow, EndRow}
use Rattle.codespan_suggestions.specs.RenderingLaws.{row_shown, rows_shown, ShownIsMade}

-- the row of an end shows no row
end-shown : (usual end : List ℕ) → rows_shown (end_rows usual end) ≡ []
end-shown usual end = by (bytes_eq end usual) where
  by : (b : Bool) → rows_shown (if b then [] else EndRow end ∷ []) ≡ []
  by true = refl
  by false = refl

-- the rows of a hunk show it
hunk-shown : (usual : List ℕ) (hunk : List NumberedRow)
    → rows_shown (hunk_rows usual hunk) ≡ hunk
hunk-shown usual [] = refl
hunk-shown usual (r ∷ rs) =
    flat_map-append row_shown (line_rows usual r) (hunk_rows usual rs)
    ∙ (ap (λ xs. (r ∷ xs) ++ rows_shown (hunk_rows usual rs))
    (end-shown usual (line_end r.row.line))
    ∙ ap (λ xs. r ∷ xs) (hunk-shown usual rs))

-- so do those of hunks with a break before each
later-shown : (usual : List ℕ) (hunks : List (List NumberedRow))
    → rows_shown (flat_map (λ rows. BreakRow ∷ rows) (map (hunk_rows usual) hunks))
    ≡ rows_of_hunks hunks
later-shown usual [] = refl
later-shown usual (h ∷ hs) =
    flat_map-append row_shown (BreakRow ∷ hunk_rows usual h)
    (flat_map (λ rows. BreakRow ∷ rows) (map (hunk_rows usual) hs))
    ∙ (ap
    (λ xs. xs ++ rows_shown (flat_map (λ rows. BreakRow ∷ rows) (map (hunk_rows usual) hs)))
    (hunk-shown usual h)
    ∙ ap (λ xs. h ++ xs) (later-shown usual hs))

-- and those with breaks between them
hunks-shown : (usual : List ℕ) (hunks : List (List NumberedRow))
    → rows_shown (separated BreakRow (map (hunk_rows usual) hunks)) ≡ rows_of_hunks hunks
hunks-shown usual [] = refl
hunks-shown usual (h ∷ hs) =
    flat_map-append row_shown (hunk_rows usual h)
    (flat_map (λ rows. BreakRow ∷ rows) (map (hunk_rows usual) hs))
    ∙ (ap
    (λ xs. xs ++ rows_shown (flat_map (λ rows. BreakRow ∷ rows) (map (hunk_rows usual) hs)))
    (hunk-shown usual h)
    ∙ ap (λ xs. h ++ xs) (later-shown usual hs))

pub shown-is-made : ShownIsMade
shown-is-made context file edits fine =
    ap (patched (lines file.text))
    (hunks-shown (usual_end file.text) (diff_hunks context file.text edits))
    ∙ hunks-are-patch context file.text edits fine
