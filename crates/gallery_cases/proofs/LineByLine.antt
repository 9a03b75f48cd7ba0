-- For the clauses of `cases::apply_lines`: cases that are parsed line by line.
use Rattle.std.proofs.Common.{◌≡◌, ◌+◌, ◌<◌, ℕ, Bor, List, [], ◌∷◌, ◌++◌}
use Rattle.std.proofs.Common.{length, map, take, get_or, Some, refl, sym, ◌∙◌, ap, subst}
use Rattle.std.specs.List.{slice_get}
use Rattle.std.specs.Option.{option_map}
use Rattle.std.proofs.lemmas.List.{map-append, take-map, take_more}
use Rattle.std.proofs.lemmas.Option.{slice_get-map, slice_get-get_or}
use Rattle.gallery_cases.specs.declared.case.Case.{Case}
use Rattle.gallery_cases.specs.declared.errors.GalleryError.TheVariants.{Line}
use Rattle.gallery_cases.specs.declared.errors.LineError.{LineError}
use Rattle.gallery_cases.specs.Cases.{AppliesLine, AppliesLines, IsLineError, IsFirstLineError}
use Rattle.program_io.specs.declared.run_error.RunError.TheVariants.{Program}

-- the cases after one more line
pub AppliesLines-more : (lines : List (List ℕ)) (line : List ℕ)
    (before between after : List Case)
    → AppliesLines lines before between → AppliesLine line between after
    → AppliesLines (lines ++ line ∷ []) before after
AppliesLines-more [] line before between after none more =
    (after, subst (λ cases. AppliesLine line cases after) none more, refl)
AppliesLines-more (first ∷ lines) line before between after applied_lines more = (
  applied_lines.0,
  applied_lines.1,
  AppliesLines-more lines line applied_lines.0 between after applied_lines.2 more,
)

module _ (lines : List (Bor (List ℕ))) (i : ℕ) (d : Bor (List ℕ)) where
  -- the texts of lines
  abbrev texts : List (Bor (List ℕ)) → List (List ℕ)
  texts ls = map (λ line. line.now) ls

  -- the cases after the line at an index
  pub next_line : (between after : List Case) → i < length lines
      → AppliesLines (texts (take i lines)) [] between
      → AppliesLine (get_or lines i d).now between after
      → AppliesLines (texts (take (i + 1) lines)) [] after
  next_line between after inside applied_lines more =
      let longer : texts (take (i + 1) lines) ≡ texts (take i lines) ++ (get_or lines i d).now
      ∷ [] =
      ap texts (take_more lines i d inside)
      ∙ map-append (λ (line : Bor (List ℕ)). line.now) (take i lines) (get_or lines i d ∷ [])
      in
      subst (λ ls. AppliesLines ls [] after) (sym longer)
      (AppliesLines-more (texts (take i lines)) (get_or lines i d).now [] between after
      applied_lines more)

  -- the error at an index is the first one
  pub first_line_error : (between : List Case) (line_error : LineError) → i < length lines
      → AppliesLines (texts (take i lines)) [] between
      → IsLineError (get_or lines i d).now between line_error
      → IsFirstLineError (texts lines) (Program (Line (i + 1) line_error))
  first_line_error between line_error inside applied_lines wrong =
      let line_at : slice_get (texts lines) i ≡ Some (get_or lines i d).now =
      slice_get-map (λ (line : Bor (List ℕ)). line.now) lines i
      ∙ ap (option_map (λ (line : Bor (List ℕ)). line.now))
      (slice_get-get_or lines i d inside) in
      let before : AppliesLines (take i (texts lines)) [] between =
      subst (λ ls. AppliesLines ls [] between)
      (sym (take-map (λ (line : Bor (List ℕ)). line.now) i lines)) applied_lines in
      (i, (get_or lines i d).now, between, refl, line_at, before, wrong)
