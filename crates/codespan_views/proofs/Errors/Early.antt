-- What fails the lookups before the header: those of the labels, and then those of filled lines and
-- of loci. For the clause `renders` of `RichDiagnostic::render`.
use Rattle.codespan_core.proofs.Std.{arith, common_steps, ◌≡◌, List, ◌++◌, Option, Some}
use Rattle.codespan_core.proofs.Std.{None, append_assoc, flat_map}
use Rattle.codespan_core.specs.FileModel.{FileDatabase, Lookup, or_failure}
use Rattle.codespan_output.specs.Types.{Error, Config}
use Rattle.codespan_output.specs.Lookups.{early_lookups, first_error, lookups_of_file}
use Rattle.codespan_output.specs.Lookups.{numbers_for_padding}
use Rattle.codespan_output.specs.Snippets.{LabelInFile, file_ids}
use Rattle.codespan_views.specs.Private.{labels_failure}
use Rattle.codespan_views.proofs.Errors.First.{first_error-append}
use Rattle.codespan_output.specs.Private.LocusBytes.{locus_lookups}

module _ {Id : Type 0} (database : FileDatabase Id) (config : Config)
    (xs : List (LabelInFile Id)) where
  -- the lookups of the numbers of filled lines, where they are made before the header
  abbrev pub number_lookups_of_labels : List (Id × Lookup)
  number_lookups_of_labels =
      flat_map (λ id. lookups_of_file id (numbers_for_padding database xs config config.layout id))
      (file_ids database.same xs)

  -- those of names and locations
  abbrev pub locus_lookups_of_labels : List (Id × Lookup)
  locus_lookups_of_labels =
      flat_map (λ id. lookups_of_file id (locus_lookups database xs id))
      (file_ids database.same xs)

  -- what these fail with
  abbrev failed : List (Id × Lookup) → Option Error
  failed = first_error database.failure

  -- both, which come after those of the labels
  abbrev pub later_failure : Option Error
  later_failure = failed (number_lookups_of_labels ++ locus_lookups_of_labels)

  -- all lookups before the header
  abbrev early : List (Id × Lookup)
  early = early_lookups database xs config

  -- the lookups of the labels come first, and then those of the files
  early-is : failed early ≡ or_failure (labels_failure config database xs) later_failure
  early-is = grind (arith, common_steps, append_assoc, first_error-append)

  -- a lookup of a label fails
  pub labels-failed : (e : Error) → labels_failure config database xs ≡ Some e
      → failed early ≡ Some e
  labels-failed e known = grind (arith, common_steps, early-is)

  -- the labels' lookups succeed, and the files' decide the rest
  pub labels-succeeded : labels_failure config database xs ≡ None
      → failed early ≡ later_failure
  labels-succeeded succeeded = grind (arith, common_steps, early-is)
