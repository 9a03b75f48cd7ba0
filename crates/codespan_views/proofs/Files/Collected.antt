-- The files that were collected: the rows, the lookups and the numbers of the snippet lines that
-- their annotations make are those of their labels. For the clauses of `RichDiagnostic::render` and
-- `render_snippets`.
use Rattle.codespan_core.proofs.Std.{common_steps, ◌≡◌, ℕ, Bool, List, [], ◌∷◌}
use Rattle.codespan_core.proofs.Std.{◌++◌, map, max, None, refl, sym, ap, ◌∙◌, arith}
use Rattle.codespan_core.proofs.Std.{flat_map, fold, AllByRecursion, AllZip, flat_map-map}
use Rattle.codespan_core.specs.FileModel.{FileDatabase, FileModel}
use Rattle.codespan_core.specs.FileModel.Lookup.{LocationAt, Name}
use Rattle.codespan_output.specs.Types.{Config, Layout, Classic, Unbroken}
use Rattle.codespan_output.specs.Lines.{drawn_lines}
use Rattle.codespan_output.specs.Lookups.{filled_lines, first_error, lookups_of_file}
use Rattle.codespan_output.specs.Lookups.{numbers_for_padding}
use Rattle.codespan_output.specs.Padding.{numbered_lines, padding_of}
use Rattle.codespan_output.specs.Snippets.{LabelInFile, LabeledFileModel, file_ids}
use Rattle.codespan_output.specs.Snippets.{labeled_file_model, labeled_file_models, rows_of_drawn}
use Rattle.codespan_views.specs.Private.{Collected, RustFile, Annotation, annotation_view}
use Rattle.codespan_views.specs.Private.{IsLineFittable}
use Rattle.codespan_views.specs.Private.{all_digit_counts, IsCollected, IsLookedUpEarly}
use Rattle.codespan_views.specs.Private.{KeepsLabels, digits_of_files, early_failure}
use Rattle.codespan_views.specs.Private.{early_number_lookups, known_numbers}
use Rattle.codespan_views.specs.Private.{known_numbers_of_files, known_numbers_of_labels, lines_at}
use Rattle.codespan_views.specs.Private.{padding_by_layout, of_files, digit_counts_of, IsIdAt}
use Rattle.codespan_views.specs.Private.{AreLabeledFiles, loci_view, with_labels, without_locus}
use Rattle.codespan_views.specs.Private.{HasLocus, locus_lookups_of_files, AreInOrder, SnippetLine}
use Rattle.codespan_views.specs.Private.{drawn_lines_of, filled_lines_of, rows_of_lines}
use Rattle.codespan_views.specs.Private.{IsLocusOfFile}
use Rattle.codespan_views.proofs.Annotations.Output.{snippet-fills, snippet-fits, snippet-lines}
use Rattle.codespan_views.proofs.Annotations.Output.{snippet-fittable}
use Rattle.codespan_views.proofs.Annotations.Output.{snippet-rows}
use Rattle.codespan_views.proofs.Errors.Early.{later_failure, locus_lookups_of_labels}
use Rattle.codespan_views.proofs.Errors.Early.{number_lookups_of_labels}
use Rattle.codespan_views.proofs.Files.InOrder.{ids-of_labels, is-id, labels-at}
use Rattle.codespan_views.proofs.Files.LociFound.{lookups_by}
use Rattle.codespan_views.proofs.Files.Turns.{flat_map_indexed-same}
use Rattle.codespan_views.proofs.Annotations.IndexedElements.{IsElementAt}
use Rattle.codespan_views.proofs.Labels.Indexing.{AreFiles}
use Rattle.codespan_views.proofs.Files.SnippetStarts.{start-is}
use Rattle.codespan_views.proofs.Lines.SpannedPadding.{spanned-padding_width}
use Rattle.codespan_output.specs.Private.LocusBytes.{digits_of}
use Rattle.codespan_output.specs.Private.LineRows.{num_multi_labels}

-- ---- the snippet lines of files

-- the snippet lines are those of a file's labels: the lines that they fill in, the lines that they
-- show, and their rows are those of its snippet
pub record AreLinesOfSnippet (config : Config) (s : LabeledFileModel)
    (snippet_lines : List SnippetLine) : Type 0 where
  pub fills : filled_lines_of snippet_lines ≡ filled_lines config s
  pub lines : drawn_lines_of snippet_lines ≡ drawn_lines config s.file s.labels
  pub rows : rows_of_lines s.file (num_multi_labels s) snippet_lines ≡ rows_of_drawn s None
      (drawn_lines config s.file s.labels)
  pub in_order : AreInOrder (num_multi_labels s) snippet_lines
  pub fittable : AllByRecursion (IsLineFittable s.file (num_multi_labels s)) snippet_lines

-- nothing of each is nothing
abbrev pub none_of : {Id A : Type 0} → Id → List A
none_of id = []

pub nothing-of_each : {Id A : Type 0} (ids : List Id)
    → flat_map (none_of {Id = Id} {A = A}) ids ≡ []
nothing-of_each [] = refl
nothing-of_each (id ∷ ids) = nothing-of_each ids

-- a file is that of its labels: its lanes, its locus and its snippet lines
pub record IsFileOfLabels {Id : Type 0} (config : Config) (s : LabeledFileModel) (f : RustFile Id)
    (snippet_lines : List SnippetLine) : Type 0 where
  pub lanes_are : f.num_multi_labels ≡ num_multi_labels s
  pub lines_are : AreLinesOfSnippet config s snippet_lines

module _ {Id : Type 0} {database : FileDatabase Id} (lawful : AreFiles database) {config : Config}
    {xs : List (LabelInFile Id)} {collected : Collected Id}
    (all : IsCollected database config xs collected) where
  -- which ids name one file, and the file that an id names
  abbrev same : Id → Id → Bool
  same = database.same

  abbrev file : Id → FileModel
  file = database.file

  -- its annotations
  abbrev es : List Annotation
  es = map annotation_view collected.annotations.items

  -- a file with its labels
  abbrev labeled : Id → LabeledFileModel
  labeled = labeled_file_model same file xs

  -- the snippet lines at a file's index are those of its snippet
  snippet : (k : ℕ) (id : Id) → IsIdAt (file_ids same xs) k id
      → AreLinesOfSnippet config (labeled id) (lines_at es k)
  snippet k id at = record {
    fills = snippet-fills lawful all k id at;
    lines = snippet-lines lawful all k id at;
    rows = snippet-rows lawful all k id at;
    in_order = snippet-fits lawful all k id at;
    fittable = snippet-fittable lawful all k id at;
  }

  -- what is made of the snippet lines of each file is made of its labels
  of-labels : {A : Type 0} (image : Id → List SnippetLine → List A) (each : Id → List A)
      → ((k : ℕ) (id : Id) → IsIdAt (file_ids same xs) k id
      → image id (lines_at es k) ≡ each id)
      → of_files image collected ≡ flat_map each (file_ids same xs)
  of-labels image each is = grind (arith, common_steps, ids-of_labels, flat_map_indexed-same)

  -- the file at an index is that of its labels
  pub file-at : {k : ℕ} {f : RustFile Id} {snippet_lines : List SnippetLine}
      → IsElementAt collected.files.items k f → snippet_lines ≡ lines_at es k
      → IsFileOfLabels config (labeled f.file_id) f snippet_lines
  file-at {k} {f} {snippet_lines} at is = record {
    lanes_are = ap (λ t. t.2) (labels-at at all.files);
    lines_are = rw is (snippet k f.file_id (rw (← ids-of_labels all.files) (is-id at)));
  }

  -- ---- lookups

  -- the numbers that are looked up before the header are those of the padding
  numbers-are : early_number_lookups config.layout collected ≡ number_lookups_of_labels database
      config xs
  numbers-are = by_layout config.layout
    where
      by_layout : (layout : Layout)
          → early_number_lookups layout collected ≡ flat_map
          (λ id. lookups_of_file id (numbers_for_padding database xs config layout id))
          (file_ids same xs)
      by_layout Classic = sym (nothing-of_each (file_ids same xs))
      by_layout Unbroken = grind (arith, common_steps, of-labels, snippet)

  -- the lookups of the loci of files are those of their snippets
  loci-are : locus_lookups_of_files collected.files.items
      ≡ locus_lookups_of_labels database config xs
  loci-are =
      sym (flat_map-map lookups_by without_locus collected.files.items)
      ∙ ap (flat_map lookups_by) all.files.are
      ∙ flat_map-map lookups_by (with_labels same file xs) (file_ids same xs)
      ∙ (λ i. flat_map
      (λ id. lookups_of_file id (Name ∷ LocationAt (start-is same file id xs i) ∷ []))
      (file_ids same xs))

  -- what is looked up before the header fails with what the labels' files do
  pub failure-is : early_failure config.layout database.failure collected ≡ later_failure database
      config xs
  failure-is = λ i. first_error database.failure (numbers-are i ++ loci-are i)

  -- ---- loci

  -- the loci of files are those of their snippets
  loci-of_files : (fs : List (RustFile Id)) (ids : List Id)
      → map without_locus fs ≡ map (with_labels same file xs) ids
      → AllByRecursion (HasLocus file) fs
      → AllZip IsLocusOfFile (map labeled ids) (loci_view fs)
  loci-of_files [] [] known loci = tt
  loci-of_files [] (id ∷ ids) known loci = absurd (cc known)
  loci-of_files (f ∷ fs) [] known loci = absurd (cc known)
  loci-of_files (f ∷ fs) (id ∷ ids) known loci = grind
      (arith, common_steps, start-is same file id xs, loci-of_files fs ids)

  -- so are those of all files
  pub loci-of_all : AllByRecursion (HasLocus file) collected.files.items
      → AllZip IsLocusOfFile (labeled_file_models same file xs) (loci_view collected.files.items)
  loci-of_all = loci-of_files collected.files.items (file_ids same xs) all.files.are

  -- ---- numbers and the padding width

  -- the known numbers are those of the labels
  known-are : known_numbers_of_files config.layout file collected ≡ known_numbers_of_labels config
      database xs (file_ids same xs)
  known-are = by_layout config.layout
    where
      by_layout : (layout : Layout)
          → known_numbers_of_files layout file collected ≡ flat_map
          (λ id. known_numbers layout (file id) (filled_lines config (labeled id)))
          (file_ids same xs)
      by_layout Classic = sym (nothing-of_each (file_ids same xs))
      by_layout Unbroken = grind (arith, common_steps, of-labels, snippet)

  -- in the unbroken layout the digits of the drawn lines are those that the padding fits
  digits-are : config.layout ≡ Unbroken
      → fold max 0 (digits_of_files file collected)
      ≡ padding_of config (labeled_file_models same file xs)
  digits-are unbroken =
      ap (fold max 0)
      (of-labels (λ id ls. digit_counts_of (file id) (drawn_lines_of ls))
      (λ id. digits_of (labeled id) (numbered_lines config (labeled id)))
      (λ k id at. grind (arith, common_steps, snippet))
      ∙ sym (flat_map-map _ labeled (file_ids same xs)))

  -- so the padding width by the layout fits
  padding-is : collected.padding.digit_count ≡ fold max 0 (all_digit_counts file xs)
      → padding_by_layout config.layout file collected
      ≡ padding_of config (labeled_file_models same file xs)
  padding-is spanned = grind (arith, common_steps, spanned-padding_width, digits-are)

  -- ---- what was collected, looked up

  pub looked-up : {new : Collected Id} {numbers : List ℕ}
      → collected.padding.digit_count ≡ fold max 0 (all_digit_counts file xs)
      → numbers ≡ known_numbers_of_files config.layout file collected
      → new.padding.digit_count ≡ padding_by_layout config.layout file collected
      → AllByRecursion (HasLocus file) new.files.items
      → KeepsLabels collected.files.items new.files.items
      → new.annotations ≡ collected.annotations
      → IsLookedUpEarly database config xs numbers new
  looked-up {new} spanned numbers_found padding_found loci kept same_annotations =
      let labeled : AreLabeledFiles same file xs (file_ids same xs) new.files.items =
      record { are = kept ∙ all.files.are } in
      let same_ids = ids-of_labels labeled ∙ sym (ids-of_labels all.files) in record {
        collected_is = record {
          files = labeled;
          sorted = rw same_annotations all.sorted;
          permutation = rw same_annotations all.permutation;
          lines = rw (same_annotations, same_ids) all.lines;
        };
        loci = loci;
        numbers_are = numbers_found ∙ known-are;
        padding_is = padding_found ∙ padding-is spanned;
      }
