-- The byte of a file's locus, by the least starts of its labels, is that of the definitions: for
-- the clauses of `RichDiagnostic::render`.
use Rattle.codespan_core.proofs.Std.{common_steps, arith, ◌≡◌, ℕ, Bool, true, false, List}
use Rattle.codespan_core.proofs.Std.{[], ◌∷◌, map, filter, refl, unwrap_or}
use Rattle.codespan_core.specs.FileModel.{FileModel}
use Rattle.codespan_core.specs.Labels.{LabelModel, is_primary}
use Rattle.std.proofs.lemmas.Simd.{map-map}
use Rattle.codespan_output.specs.Snippets.{LabelInFile, labeled_file_model, least, locus_byte_of}
use Rattle.codespan_output.proofs.Utf8.ListElements.{filter-filter}
use Rattle.codespan_output.proofs.Slots.RefilledLabels.{filter-map}
use Rattle.codespan_views.specs.Private.{file_least_starts, least_if_any, locus_byte, label_starts}

-- the least of some numbers is that of those that there are
least-unwrap : (ns : List ℕ) → unwrap_or (least_if_any ns) 0 ≡ least ns
least-unwrap ns = grind (arith, common_steps)

-- the least start of the primary ones of some labels, or of any where none is
least-start : (ys : List LabelModel)
    → unwrap_or (least_if_any (map (λ (y : LabelModel). y.start) (filter is_primary ys)))
    (unwrap_or (least_if_any (map (λ (y : LabelModel). y.start) ys)) 0) ≡ locus_byte_of ys
least-start ys = grind (arith, common_steps, least-unwrap)

module _ {Id : Type 0} (same : Id → Id → Bool) (file : Id → FileModel) (id : Id) where
  -- the starts of the primary labels of the file
  primary-starts : (xs : List (LabelInFile Id))
      → label_starts same id true xs ≡ map (λ (x : LabelModel). x.start)
      (filter is_primary (labeled_file_model same file xs id).labels)
  primary-starts xs = simp (filter-map, filter-filter, map-map)

  -- the starts of all its labels
  all-starts : (xs : List (LabelInFile Id))
      → label_starts same id false xs ≡ map (λ (x : LabelModel). x.start)
      (labeled_file_model same file xs id).labels
  all-starts [] = refl
  all-starts (x ∷ xs) = grind (arith, common_steps, all-starts xs)

  -- the start by the labels is where the snippet starts
  pub start-is : (xs : List (LabelInFile Id))
      → locus_byte (file_least_starts same xs id) ≡ locus_byte_of
      (labeled_file_model same file xs id).labels
  start-is xs = grind (arith, common_steps, primary-starts, all-starts, least-start)
