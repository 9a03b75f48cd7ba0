-- For `FittedIsLine`: the rows of a snippet whose lines fit a width.
use Rattle.codespan_core.proofs.Std.{◌≡◌, ℕ, ◌+◌, Bool, true, false, List, [], ◌∷◌, ◌++◌, map}
use Rattle.codespan_core.proofs.Std.{Option, Some, None, nat_le, refl, sym, ap₂, ◌∙◌, if◌then◌else◌}
use Rattle.codespan_core.proofs.Std.{map-append, option_map_or}
use Rattle.codespan_core.specs.LawfulFiles.{IsLawful}
use Rattle.codespan_output.specs.{RowContext, Row, BreakRow, LabeledFileModel, line_at, rows_of}
use Rattle.codespan_output.specs.{rows_of_drawn, in_sequence, break_between, fitted, fitted_row}
use Rattle.codespan_output.proofs.Fitting.DrawnLines.{line_at-fittable}
use Rattle.codespan_output.proofs.Fitting.FittedRows.{fitted-is-line}

module _ (width : Option ℕ) (context : RowContext) (s : LabeledFileModel) where
  -- the row of a break before a line
  break_row : ℕ → List Row
  break_row d = BreakRow (line_at s d).lanes ∷ []

  break-same : (c d : ℕ) → map (fitted_row width context) (break_between break_row c d)
      ≡ break_between break_row c d
  unfolding break_row
  break-same c d = by_test (nat_le (c + 3) d)
    where
      by_test : (b : Bool) → map (fitted_row width context) (if b then break_row d else [])
          ≡ (if b then break_row d else [])
      by_test true = refl
      by_test false = refl

  before-same : (previous : Option ℕ) (d : ℕ)
      → map (fitted_row width context)
      (option_map_or (λ c. break_between break_row c d) previous [])
      ≡ option_map_or (λ c. break_between break_row c d) previous []
  before-same None d = refl
  before-same (Some c) d = break-same c d

  -- breaks stay, and each drawn line has the rows of the line that fits
  pub drawn-fitted : IsLawful s.file → (previous : Option ℕ) (ls : List ℕ)
      → map (fitted_row width context) (rows_of_drawn s previous ls)
      ≡ in_sequence (λ l. l) (break_between (λ d. BreakRow (line_at s d).lanes ∷ []))
      (λ l. rows_of (fitted width context (line_at s l))) previous ls
  unfolding break_row
  drawn-fitted law previous [] = refl
  drawn-fitted law previous (l ∷ ls) =
      let before = option_map_or (λ c. break_between break_row c l) previous [] in
      let rest = rows_of_drawn s (Some l) ls in
      map-append (fitted_row width context) (before ++ rows_of (line_at s l)) rest
      ∙ ap₂ (λ a b. a ++ b)
      (map-append (fitted_row width context) before (rows_of (line_at s l))
      ∙ ap₂ (λ a b. a ++ b) (before-same previous l)
      (sym (fitted-is-line width context (line_at s l) (line_at-fittable s law l)).rows))
      (drawn-fitted law (Some l) ls)
