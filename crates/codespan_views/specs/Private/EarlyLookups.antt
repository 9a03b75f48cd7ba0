-- What is looked up before the header, labels aside: the numbers of filled lines, and loci.
use Rattle.std.specs.Prelude.{◌≡◌, ℕ, ◌+◌, List, [], ◌∷◌, ◌++◌, Option}
use Rattle.std.specs.Prelude.{filter, flat_map, fold, map, max}
use Rattle.std.specs.List.{AllByRecursion}
use Rattle.codespan_core.specs.FileModel.{FileDatabase, FileModel, Lookup}
use Rattle.codespan_output.specs.Types.{Config, Error, Layout, Classic, Unbroken}
use Rattle.codespan_output.specs.Lookups.{Failures, filled_lines, first_error, lookups_of_file}
use Rattle.codespan_output.specs.Padding.{count_digits, padding_of}
use Rattle.codespan_output.specs.Snippets.{LabelInFile, file_ids, labeled_file_model}
use Rattle.codespan_output.specs.Snippets.{labeled_file_models}
use Rattle.codespan_views.specs.Private.Types.{Collected, RustFile}
use Rattle.codespan_views.specs.Private.Annotations.{Annotation, is_of_file, annotation_view}
use Rattle.codespan_views.specs.Private.Collections.{IsCollected}
use Rattle.codespan_views.specs.Private.SnippetLines.{number_lookups, SnippetLine, drawn_lines_of}
use Rattle.codespan_views.specs.Private.SnippetLines.{filled_lines_of, lines_of}
use Rattle.codespan_views.specs.Private.LabeledFiles.{ids_view, without_locus}
use Rattle.codespan_views.specs.Private.Loci.{HasLocus, locus_lookups_of_files}

-- the numbers of these lines
abbrev pub numbers_of : FileModel → List ℕ → List ℕ
numbers_of f ls = map f.line_number ls

-- the digit counts of these numbers
abbrev pub digit_counts_of : FileModel → List ℕ → List ℕ
digit_counts_of f ls = map (λ l. count_digits (f.line_number l)) ls

-- the numbers of filled lines that are known before the header: in the unbroken layout all
abbrev pub known_numbers : Layout → FileModel → List ℕ → List ℕ
known_numbers Classic f ls = []
known_numbers Unbroken f ls = numbers_of f ls

-- the lines of the snippet of the file at an index
abbrev pub lines_at : List Annotation → ℕ → List SnippetLine
lines_at annotations k = lines_of (filter (is_of_file k) annotations)

-- what `image` makes of each id and its index, one after another; indices are counted from k on
abbrev pub flat_map_indexed : {Id A : Type 0} → (ℕ → Id → List A) → ℕ → List Id
    → List A
flat_map_indexed image k [] = []
flat_map_indexed image k (id ∷ ids) = image k id ++ flat_map_indexed image (k + 1) ids

-- ---- what was collected

module _ {Id : Type 0} where
  -- what `image` makes of the snippet lines of each file, one after another
  abbrev pub of_files : {A : Type 0} → (Id → List SnippetLine → List A) → Collected Id
      → List A
  of_files image collected =
      flat_map_indexed
      (λ k id. image id (lines_at (map annotation_view collected.annotations.items) k)) 0
      (ids_view collected.files.items)

  -- the lookups of the numbers of the filled lines of all files
  abbrev pub number_lookups_of_files : Collected Id → List (Id × Lookup)
  number_lookups_of_files =
      of_files (λ id lines. lookups_of_file id (number_lookups (filled_lines_of lines)))

  -- those that are made before the header: in the unbroken layout all
  abbrev pub early_number_lookups : Layout → Collected Id → List (Id × Lookup)
  early_number_lookups Classic collected = []
  early_number_lookups Unbroken collected = number_lookups_of_files collected

  -- what the lookups fail with: these, and then those of the loci of all files
  abbrev pub early_failure : Layout → Failures Id → Collected Id → Option Error
  early_failure layout failure collected =
      first_error failure
      (early_number_lookups layout collected ++ locus_lookups_of_files collected.files.items)

  -- the files keep their ids and what is known of their labels
  abbrev pub KeepsLabels : List (RustFile Id) → List (RustFile Id) → Type 0
  KeepsLabels old new = map without_locus new ≡ map without_locus old

  module _ (file : Id → FileModel) where
    -- the numbers of the filled lines of all files
    abbrev pub numbers_of_files : Collected Id → List ℕ
    numbers_of_files = of_files (λ id lines. numbers_of (file id) (filled_lines_of lines))

    -- the digit counts of the numbers of all drawn lines
    abbrev pub digits_of_files : Collected Id → List ℕ
    digits_of_files = of_files (λ id lines. digit_counts_of (file id) (drawn_lines_of lines))

  -- the numbers of filled lines that are known before the header
  abbrev pub known_numbers_of_files : Layout → (Id → FileModel) → Collected Id → List ℕ
  known_numbers_of_files Classic file collected = []
  known_numbers_of_files Unbroken file collected = numbers_of_files file collected

  -- the padding width: in the unbroken layout that of all drawn lines
  abbrev pub padding_by_layout : Layout → (Id → FileModel) → Collected Id → ℕ
  padding_by_layout Classic file collected = collected.padding.digit_count
  padding_by_layout Unbroken file collected = fold max 0 (digits_of_files file collected)

-- the numbers of filled lines that are known before the header, of the files of these labels
abbrev pub known_numbers_of_labels : {Id : Type 0} → Config → FileDatabase Id
    → List (LabelInFile Id) → List Id → List ℕ
known_numbers_of_labels config database xs ids =
    flat_map (λ id. known_numbers config.layout (database.file id)
    (filled_lines config (labeled_file_model database.same database.file xs id))) ids

-- what was collected of these labels, once loci, numbers and the padding width are looked up
pub record IsLookedUpEarly {Id : Type 0} (database : FileDatabase Id) (config : Config)
    (xs : List (LabelInFile Id)) (numbers : List ℕ) (collected : Collected Id) : Type 0 where
  pub collected_is : IsCollected database config xs collected
  pub loci : AllByRecursion (HasLocus database.file) collected.files.items
  pub numbers_are : numbers
      ≡ known_numbers_of_labels config database xs (file_ids database.same xs)
  pub padding_is : collected.padding.digit_count
      ≡ padding_of config (labeled_file_models database.same database.file xs)
