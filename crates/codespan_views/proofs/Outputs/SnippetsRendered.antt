-- The snippets of the files that were collected, one after another, for the clause of
-- `render_snippets`.
use Rattle.codespan_core.proofs.Std.{common_steps, ◌≡◌, ℕ, ◌+◌, ◌≤◌, Bool}
use Rattle.codespan_core.proofs.Std.{◌||◌, List, [], ◌∷◌, ◌++◌, length, drop, map}
use Rattle.codespan_core.proofs.Std.{Option, None, Ok, refl, sym, subst, ap, ◌∙◌, arith}
use Rattle.codespan_core.proofs.Std.{flat_map, nat_lt, if◌then◌else◌}
use Rattle.codespan_core.proofs.Std.{append_assoc}
use Rattle.codespan_core.specs.FileModel.{FileDatabase, FileModel, Lookup, or_failure}
use Rattle.codespan_core.specs.Streams.{Stream}
use Rattle.codespan_core.specs.WriterLaw.{Sink}
use Rattle.codespan_core.specs.FileModel.Lookup.{Source}
use Rattle.codespan_output.specs.Types.{Diagnostic, Error, Layout, Classic, Unbroken, Config}
use Rattle.codespan_output.specs.Arguments.{locus_view}
use Rattle.codespan_output.specs.Lookups.{filled_lines, first_error, lookups_of_file}
use Rattle.codespan_output.specs.Lookups.{snippet_lookups}
use Rattle.codespan_output.specs.OutputStreams.{fitted_stream, labels_of, notes_of}
use Rattle.codespan_output.specs.Rows.{Locus, Row, RowContext}
use Rattle.codespan_output.specs.Lines.{drawn_lines}
use Rattle.codespan_output.specs.Snippets.{rows_of_drawn, empty_row_after, LabeledFileModel}
use Rattle.codespan_output.specs.Snippets.{labeled_file_model, snippets}
use Rattle.codespan_views.specs.Private.{Collected, RustFile, IsLookedUpEarly, known_numbers}
use Rattle.codespan_views.specs.Private.{known_numbers_of_labels, AreNumbersOf, lookups_with}
use Rattle.codespan_views.specs.Private.{ids_view, loci_view, WritesWithLookups, SnippetLine}
use Rattle.codespan_views.specs.Private.{filled_lines_of, rows_of_lines, first_rows}
use Rattle.codespan_views.specs.Private.{snippet_empty_row, late_failure, snippet_rows}
use Rattle.codespan_core.proofs.Chains.{WroteStream}
use Rattle.codespan_output.proofs.Fitting.FittedStreams.{fitted-append}
use Rattle.codespan_views.proofs.Files.Collected.{IsFileOfLabels, nothing-of_each}
use Rattle.codespan_views.proofs.Files.InOrder.{ids-of_labels, drop-end, followed-at, id-at}
use Rattle.codespan_views.proofs.Files.InOrder.{id-inside, ids-count, locus-at, locus-inside}
use Rattle.codespan_views.proofs.Lines.FilledNumbers.{AreKnown, IsLaterIn, are-known}
use Rattle.codespan_views.proofs.Errors.First.{first_error-append}
use Rattle.codespan_views.proofs.Annotations.IndexedElements.{IsElementAt, drop-one}
use Rattle.codespan_views.proofs.Errors.LookupRuns.{IsLeft, left_after, left_as, run_of_lookup}
use Rattle.codespan_views.proofs.Errors.LookupRuns.{run_of_writes}
use Rattle.codespan_output.specs.Private.LineRows.{has_any, num_multi_labels}

-- ---- the files from an index on

module _ {Id : Type 0} (database : FileDatabase Id) (view_config : Config) (d : Diagnostic Id) where
  -- a file with its labels
  abbrev pub labeled : Id → LabeledFileModel
  labeled = labeled_file_model database.same database.file (labels_of d)

  -- the lookups with a file's snippet
  abbrev snippet_lookups_of : Id → List (Id × Lookup)
  snippet_lookups_of = λ id. lookups_of_file id
      (snippet_lookups database (labels_of d) view_config id)

  -- what those of these files fail with
  abbrev failure_of_all : List Id → Option Error
  failure_of_all ids = first_error database.failure (flat_map snippet_lookups_of ids)

  -- the rows of these files, whose snippets have these loci
  abbrev rows_at : List Locus → List Id → List Row
  rows_at loci ids = snippets view_config (has_any (notes_of d)) loci (map labeled ids)

  module _ (collected : Collected Id) where
    -- the rows of the files from an index on
    abbrev rows_left : ℕ → List Row
    rows_left k = rows_at (drop k (loci_view collected.files.items))
        (drop k (ids_view collected.files.items))

    -- what their lookups fail with
    abbrev failure_left : ℕ → Option Error
    failure_left k = failure_of_all (drop k (ids_view collected.files.items))

    -- the snippets from this index on are left of all
    pub record SnippetsLeft (width : Option ℕ) (context : RowContext) (k : ℕ) (old now : Sink)
        : Type 0 where
      pub left : IsLeft (late_failure view_config database d) old
          (fitted_stream width context (snippet_rows view_config database d collected))
          (failure_left k) now (fitted_stream width context (rows_left k))

-- the streams of rows, one after the other
rows-four : (width : Option ℕ) (context : RowContext) (start lines end rest : List Row)
    → fitted_stream width context (start ++ ((lines ++ end) ++ rest))
    ≡ fitted_stream width context start ++ (fitted_stream width context lines
    ++ (fitted_stream width context end ++ fitted_stream width context rest))
rows-four width context start lines end rest =
    let shown = fitted_stream width context in
    fitted-append width context start ((lines ++ end) ++ rest)
    ∙ ap (λ s. shown start ++ s)
    (fitted-append width context (lines ++ end) rest
    ∙ ap (λ s. s ++ shown rest) (fitted-append width context lines end)
    ∙ append_assoc (shown lines) (shown end) (shown rest))

-- at first all are left
pub left-start : {Id : Type 0} {database : FileDatabase Id} {view_config : Config}
    {d : Diagnostic Id} {width : Option ℕ} {context : RowContext} {collected : Collected Id}
    {numbers : List ℕ} {s : Sink}
    → IsLookedUpEarly database view_config (labels_of d) numbers collected
    → SnippetsLeft database view_config d collected width context 0 s s
left-start looked_up = record {
  left = rw (ids-of_labels looked_up.collected_is.files)
      (record { frame = refl; finish = λ run. run });
}

-- in the classic layout no number of a file is known
none-later : {Id : Type 0} (file : Id → FileModel) (filled : Id → List ℕ) (layout : Layout)
    (js : List Id)
    → IsLaterIn layout (flat_map (λ id. known_numbers layout (file id) (filled id)) js)
none-later file filled Classic js = nothing-of_each js
none-later file filled Unbroken js = tt

module _ {Id : Type 0} {database : FileDatabase Id} {view_config : Config} {d : Diagnostic Id}
    {width : Option ℕ} {context : RowContext} {collected : Collected Id} {k : ℕ} {old mid : Sink}
    (left : SnippetsLeft database view_config d collected width context k old mid) where
  -- what names the files, and where they start
  abbrev ids : List Id
  ids = ids_view collected.files.items

  abbrev loci : List Locus
  loci = loci_view collected.files.items

  -- the known numbers of files
  abbrev known_of : List Id → List ℕ
  known_of = known_numbers_of_labels view_config database (labels_of d)

  -- all files are rendered
  pub left-end : {files : List (RustFile Id)} → files ≡ collected.files.items
      → length files ≤ k
      → WritesWithLookups (late_failure view_config database d) old
      (fitted_stream width context (snippet_rows view_config database d collected)) (Ok tt) mid
  left-end {files} equal past =
      let counted = subst (λ (fs : List (RustFile Id)). length fs ≤ k) equal past in
      let none : drop k ids ≡ [] = drop-end ids k (omega (arith, counted, ids-count {Id = Id})) in
      (rw (none, no-rows (drop k loci)) at left.left).finish (run_of_lookup refl)
    where
      no-rows : (ps : List Locus) → rows_at database view_config d ps [] ≡ []
      no-rows [] = refl
      no-rows (p ∷ ps) = refl

  module _ {f : RustFile Id} {snippet_lines : List SnippetLine}
      (at : IsElementAt collected.files.items k f)
      (is : IsFileOfLabels view_config (labeled database view_config d f.file_id) f
      snippet_lines) {numbers_now : List ℕ} (numbers_are : numbers_now ≡ known_of (drop k ids))
    where
      -- the file with its labels
      abbrev own : LabeledFileModel
      own = labeled database view_config d f.file_id

      -- what comes after it
      abbrev later : List Id
      later = drop (k + 1) ids

      -- ---- its numbers

      -- the numbers that are left are its own, and those of later files
      known : AreKnown (database.file f.file_id) view_config.layout
          (filled_lines_of snippet_lines) numbers_now (known_of later)
      known =
          rw (
            numbers_are,
            drop-one ids k f.file_id (id-inside at) (id-at at),
            is.lines_are.fills,
          )
          (are-known (database.file f.file_id) view_config.layout (filled_lines view_config own)
          (known_of later) (none-later _ _ view_config.layout later))

      -- they are those of its filled lines
      pub own-numbers : AreNumbersOf (database.file f.file_id) numbers_now
          (filled_lines_of snippet_lines)
      own-numbers = known.are

      -- which are taken
      pub own-taken : {after : List ℕ}
          → after ≡ drop (length (filled_lines_of snippet_lines)) numbers_now
          → after ≡ known_of later
      own-taken taken = taken ∙ known.taken

      -- ---- its lookups

      -- what those of its filled lines fail with
      abbrev lines_failure : Option Error
      lines_failure = first_error database.failure
          (lookups_of_file f.file_id (lookups_with numbers_now (filled_lines_of snippet_lines)))

      -- what those of later files fail with
      abbrev later_failure : Option Error
      later_failure = failure_left database view_config d collected (k + 1)

      -- what is left is that of its source, and these
      failure-is : failure_left database view_config d collected k
          ≡ or_failure (database.failure f.file_id Source)
          (or_failure lines_failure later_failure)
      failure-is =
          rw (
            drop-one ids k f.file_id (id-inside at) (id-at at),
            ← is.lines_are.fills,
            ← known.lookups,
          )
          (ap (or_failure (database.failure f.file_id Source))
          (first_error-append database.failure _ _))

      -- ---- its rows

      -- something follows its snippet
      abbrev follows : Bool
      follows = has_any (notes_of d) || nat_lt (k + 1) (length collected.files.items)

      -- whether something does is determined by the later files and the notes
      followed : (has_any (map (labeled database view_config d) later) || has_any (notes_of d))
          ≡ follows
      followed =
          mapped later ∙ followed-at (has_any (notes_of d)) ids k
          ∙ ap (λ n. has_any (notes_of d) || nat_lt (k + 1) n) (ids-count collected.files.items)
        where
          mapped : (js : List Id) → (has_any (map (labeled database view_config d) js)
              || has_any (notes_of d)) ≡ (has_any js || has_any (notes_of d))
          mapped js = grind (arith, common_steps)

      -- the streams of its first rows, of its lines, and of what comes after these: a row, where
      -- something follows, and later files
      abbrev first_stream : Stream
      first_stream = fitted_stream width context (first_rows f.num_multi_labels f.locus)

      abbrev lines_stream : Stream
      lines_stream =
          fitted_stream width context
          (rows_of_lines (database.file f.file_id) f.num_multi_labels snippet_lines)

      abbrev end_stream : Bool → Stream
      end_stream b =
          fitted_stream width context (if b then snippet_empty_row f.num_multi_labels ∷ [] else [])
          ++ fitted_stream width context (rows_left database view_config d collected (k + 1))

      -- what is left are these
      stream-is : fitted_stream width context (rows_left database view_config d collected k)
          ≡ first_stream ++ (lines_stream ++ end_stream follows)
      stream-is =
          rw (
            drop-one loci k (locus_view f.locus) (locus-inside at) (locus-at at),
            drop-one ids k f.file_id (id-inside at) (id-at at),
            is.lanes_are,
            is.lines_are.rows,
            followed,
          )
          (rows-four width context (first_rows (num_multi_labels own) f.locus)
          (rows_of_drawn own None (drawn_lines view_config own.file own.labels))
          (empty_row_after follows own) (rows_left database view_config d collected (k + 1)))

      -- ---- one part after another

      -- these lookups and this stream are left of all
      abbrev Left : Option Error → Sink → Stream → Type 0
      Left = IsLeft (late_failure view_config database d) old
          (fitted_stream width context (snippet_rows view_config database d collected))

      -- its parts are left
      pub left-parts : Left (or_failure (database.failure f.file_id Source)
          (or_failure lines_failure later_failure)) mid
          (first_stream ++ (lines_stream ++ end_stream follows))
      left-parts = left_as failure-is stream-is left.left

      module _ (succeeded : database.failure f.file_id Source ≡ None) where
        -- its source was looked up
        pub left-source : Left (or_failure lines_failure later_failure) mid
            (first_stream ++ (lines_stream ++ end_stream follows))
        left-source = left_after _ _ (run_of_lookup succeeded) left-parts

        module _ {inner : Sink} (wrote : WroteStream mid first_stream inner) where
          -- its first rows have been written
          pub left-lines : Left (or_failure lines_failure later_failure) inner
              (lines_stream ++ end_stream follows)
          left-lines = left_after _ _ (run_of_writes (Ok tt) wrote tt) left-source

          -- its lines have been rendered
          pub left-row : {last : Sink} (followed : Bool) → followed ≡ follows
              → WritesWithLookups lines_failure inner lines_stream (Ok tt) last
              → Left later_failure last (end_stream followed)
          left-row here same run =
              left_as refl (ap end_stream (sym same)) (left_after _ _ run left-lines)
