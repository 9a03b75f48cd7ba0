-- The rows of files fit their cells, for the clause of `laws::sources_and_output_give_texts`.
use Rattle.codespan_core.proofs.Std.{◌≡◌, ℕ, ◌<◌, ◌≤◌, ◌^◌}
use Rattle.codespan_core.proofs.Std.{List, [], ◌∷◌, ◌++◌, map}
use Rattle.codespan_core.proofs.Std.{flat_map, sym, subst, arith, AllByRecursion}
use Rattle.codespan_core.proofs.Std.{Option, Some, None, IfSome, cond_both, max, fold}
use Rattle.codespan_core.proofs.Std.{map-append, bytes_eq}
use Rattle.std.specs.Option.{option_to_list}
use Rattle.codespan_output.specs.Padding.{count_digits}
use Rattle.codespan_edits.specs.Numbers.{NumberedRow}
use Rattle.codespan_suggestions.specs.DrawnText.{line_end}
use Rattle.codespan_suggestions.specs.DrawnFiles.{DrawnFile}
use Rattle.codespan_suggestions.specs.SuggestionRows.{Row, RowSettings, separated}
use Rattle.codespan_suggestions.specs.SuggestionRows.{line_rows, hunk_rows, file_rows}
use Rattle.codespan_suggestions.specs.SuggestionRows.{row_numbers, file_digits, padding_of}
use Rattle.codespan_suggestions.specs.SuggestionRows.Row.{StartRow, EmptyRow, BreakRow}
use Rattle.codespan_suggestions.specs.SuggestionRows.Row.{EndRow, FinalRow}
use Rattle.codespan_suggestions.proofs.ReadLemmas.{HasCells}
use Rattle.codespan_suggestions.proofs.ReadTexts.{all-first, all-second, end-bytes}
use Rattle.codespan_suggestions.proofs.ShownTexts.{shown-one}
use Rattle.codespan_suggestions.proofs.ReadStreams.{Fits}
use Rattle.codespan_suggestions.proofs.DrawableRows.{IsDrawable}

-- ---- numbers fit their cells

-- numbers are at most the greatest of them and of more
below-max : (m : ℕ) (xs : List ℕ) → m ≤ fold max m xs
below-max m [] = omega arith
below-max m (x ∷ xs) = let h = below-max (max m x) xs in omega (arith, h)

all-below : (m : ℕ) (xs : List ℕ) → AllByRecursion (λ x. x ≤ fold max m xs) xs
all-below m [] = tt
all-below m (x ∷ xs) =
    (let h = below-max (max m x) xs in omega (arith, h), all-below (max m x) xs)

has-cells : (padding : ℕ) (o : Option ℕ) → IfSome o (λ n. n < 2 ^ 64)
    → AllByRecursion (λ d. d ≤ padding) (map count_digits (option_to_list o)) → HasCells padding o
has-cells padding None few all = tt
has-cells padding (Some n) few all = (few, all.0)

module _ (settings : RowSettings) where
  abbrev FitAll : List Row → Type 0
  FitAll = AllByRecursion (Fits settings)

  fits-append : (xs ys : List Row) → FitAll xs → FitAll ys → FitAll (xs ++ ys)
  fits-append [] ys all more = more
  fits-append (x ∷ xs) ys all more = (all.0, fits-append xs ys all.1 more)

  -- the rows of a drawable row, and of hunks of these
  line-fits : (usual : List ℕ) (r : NumberedRow) → IsDrawable r
      → AllByRecursion (λ d. d ≤ settings.padding) (map count_digits (row_numbers r))
      → FitAll (line_rows usual r)
  line-fits usual r can few =
      let both = subst (AllByRecursion (λ d. d ≤ settings.padding))
      (map-append count_digits (option_to_list r.old_number) (option_to_list r.new_number)) few in
      let first = map count_digits (option_to_list r.old_number) in
      let second = map count_digits (option_to_list r.new_number) in (
        (
          has-cells settings.padding r.old_number can.old
              (all-first (λ d. d ≤ settings.padding) first second both),
          has-cells settings.padding r.new_number can.new
              (all-second (λ d. d ≤ settings.padding) first second both),
          shown-one settings.tab_width r.row.line can.utf8 can.is_line,
        ),
        cond_both (bytes_eq (line_end r.row.line) usual) [] (EndRow (line_end r.row.line) ∷ [])
            FitAll (λ _. tt) (λ _. (end-bytes r.row.line, tt)),
      )

  hunk-fits : (usual : List ℕ) (hunk : List NumberedRow) → AllByRecursion IsDrawable hunk
      → AllByRecursion (λ d. d ≤ settings.padding)
      (flat_map (λ r. map count_digits (row_numbers r)) hunk)
      → FitAll (hunk_rows usual hunk)
  hunk-fits usual [] can few = tt
  hunk-fits usual (r ∷ rs) can few =
      let first = map count_digits (row_numbers r) in
      let second = flat_map (λ r. map count_digits (row_numbers r)) rs in
      fits-append (line_rows usual r) (hunk_rows usual rs)
      (line-fits usual r can.0 (all-first (λ d. d ≤ settings.padding) first second few))
      (hunk-fits usual rs can.1 (all-second (λ d. d ≤ settings.padding) first second few))

  hunks-fit : (usual : List ℕ) (hunks : List (List NumberedRow))
      → AllByRecursion (AllByRecursion IsDrawable) hunks
      → AllByRecursion (λ d. d ≤ settings.padding)
      (flat_map (flat_map (λ r. map count_digits (row_numbers r))) hunks)
      → AllByRecursion FitAll (map (hunk_rows usual) hunks)
  hunks-fit usual [] can few = tt
  hunks-fit usual (h ∷ hs) can few =
      let first = flat_map (λ r. map count_digits (row_numbers r)) h in
      let second = flat_map (flat_map (λ r. map count_digits (row_numbers r))) hs in (
        hunk-fits usual h can.0 (all-first (λ d. d ≤ settings.padding) first second few),
        hunks-fit usual hs can.1 (all-second (λ d. d ≤ settings.padding) first second few),
      )

  -- rows with others between them
  later-fit : (separator : Row) → Fits settings separator → (xs : List (List Row))
      → AllByRecursion FitAll xs → FitAll (flat_map (λ rows. separator ∷ rows) xs)
  later-fit separator fits [] all = tt
  later-fit separator fits (x ∷ xs) all = (
    fits,
    fits-append x (flat_map (λ rows. separator ∷ rows) xs) all.0
        (later-fit separator fits xs all.1),
  )

  separated-fit : (separator : Row) → Fits settings separator → (xs : List (List Row))
      → AllByRecursion FitAll xs → FitAll (separated separator xs)
  separated-fit separator fits [] all = tt
  separated-fit separator fits (x ∷ xs) all =
      fits-append x (flat_map (λ rows. separator ∷ rows) xs) all.0
      (later-fit separator fits xs all.1)

  -- a file can be drawn
  pub record IsDrawableFile (f : DrawnFile) : Type 0 where
    pub locus : Fits settings (StartRow f.locus)
    pub rows : AllByRecursion (AllByRecursion IsDrawable) f.hunks

  files-fit : (fs : List DrawnFile) → AllByRecursion IsDrawableFile fs
      → AllByRecursion (λ d. d ≤ settings.padding) (flat_map file_digits fs)
      → AllByRecursion FitAll (map file_rows fs)
  files-fit [] can few = tt
  files-fit (f ∷ fs) can few =
      let first = file_digits f in
      let second = flat_map file_digits fs in (
        (
          can.0.locus,
          (
            tt,
            separated-fit BreakRow tt (map (hunk_rows f.usual_end) f.hunks)
                (hunks-fit f.usual_end f.hunks can.0.rows
                (all-first (λ d. d ≤ settings.padding) first second few)),
          ),
        ),
        files-fit fs can.1 (all-second (λ d. d ≤ settings.padding) first second few),
      )

  pub all-fit : (fs : List DrawnFile) → settings.padding ≡ padding_of fs
      → AllByRecursion IsDrawableFile fs
      → FitAll (separated EmptyRow (map file_rows fs) ++ FinalRow ∷ [])
  all-fit fs padding can =
      fits-append (separated EmptyRow (map file_rows fs)) (FinalRow ∷ [])
      (separated-fit EmptyRow tt (map file_rows fs)
      (files-fit fs can
      (subst (λ p. AllByRecursion (λ d. d ≤ p) (flat_map file_digits fs)) (sym padding)
      (all-below 0 (flat_map file_digits fs)))))
      (tt, tt)
