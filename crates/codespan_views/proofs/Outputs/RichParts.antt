-- A rich output, rendered part by part, its header, its snippets and its notes: for the clauses
-- `renders` of `RichDiagnostic::render`.
use Rattle.codespan_core.proofs.Std.{◌≡◌, ◌≢◌, ◌<◌, ℕ, List, [], ◌∷◌}
use Rattle.codespan_core.proofs.Std.{◌++◌, length, map, None, Some, Result, Ok, Err, inl, refl}
use Rattle.codespan_core.proofs.Std.{sym, subst, ap, ◌∙◌, arith, IfErr, Option, AllZip}
use Rattle.codespan_core.proofs.Std.{append_assoc, nil_from_length, common_steps}
use Rattle.codespan_core.specs.Errors.{IsIo}
use Rattle.codespan_core.specs.FileModel.{FileDatabase}
use Rattle.codespan_core.specs.Streams.{Stream}
use Rattle.codespan_core.specs.WriterLaw.{Sink, Writes}
use Rattle.codespan_output.specs.Types.{Config, Rich, Diagnostic, Label, Error, FormatError}
use Rattle.codespan_output.specs.Types.{OutOfMemory}
use Rattle.codespan_output.specs.Lookups.{early_lookups, first_error, late_lookups}
use Rattle.codespan_output.specs.OutputStreams.{header_text_of, label_of, labels_of, context_of}
use Rattle.codespan_output.specs.OutputStreams.{fitted_stream, notes_of}
use Rattle.codespan_output.proofs.Fitting.FittedStreams.{closing-same, fitted-append}
use Rattle.codespan_output.specs.Padding.{padding_of}
use Rattle.codespan_output.specs.Rows.{FinalRow, HeaderRow, Row}
use Rattle.codespan_output.specs.RowStreams.{stream_of_rows}
use Rattle.codespan_output.specs.Snippets.{LabelInFile, labeled_file_models, note_rows}
use Rattle.codespan_views.specs.Private.{Collected, IsLookedUpEarly, loci_view, labels_failure}
use Rattle.codespan_views.specs.Private.{WritesWithLookups, IsLocusOfFile, RendersSnippets}
use Rattle.codespan_views.specs.Private.{closing_rows, header_row_with_newline, late_failure}
use Rattle.codespan_views.specs.Private.{snippet_rows}
use Rattle.codespan_views.specs.{WritesStyled}
use Rattle.codespan_core.proofs.Chains.{WroteStream, WrotePrefix, failed-before}
use Rattle.codespan_views.proofs.Files.Collected.{loci-of_all}
use Rattle.codespan_views.proofs.Errors.Early.{labels-failed, labels-succeeded, later_failure}
use Rattle.codespan_views.proofs.Errors.First.{or_failure-none}
use Rattle.codespan_views.proofs.Labels.Indexing.{AreFiles}
use Rattle.codespan_views.proofs.Errors.LookupRuns.{run_as, run_cut, run_of_writes, run_then}
use Rattle.codespan_views.proofs.Outputs.Renderings.{IsRichOutput, early_failure, failed_early}
use Rattle.codespan_views.proofs.Outputs.Renderings.{finished, output_with, rendered}

-- where there is a label there is a lookup before the header
some_early : {Id : Type 0} (files : FileDatabase Id) (view_config : Config) (ls : List (Label Id))
    → 0 < length ls → 0 < length (early_lookups files (map label_of ls) view_config)
some_early files view_config [] some = absurd (omega arith)
some_early files view_config (l ∷ ls) some = omega arith

-- and one after it
some_late : {Id : Type 0} (files : FileDatabase Id) (view_config : Config) (ls : List (Label Id))
    → 0 < length ls → 0 < length (late_lookups files (map label_of ls) view_config)
some_late files view_config [] some = absurd (omega arith)
some_late files view_config (l ∷ ls) some = omega arith

-- without labels the output is its header and its notes
pub bare-whole : {Id : Type 0} {renderer_config view_config : Config} {files : FileDatabase Id}
    {d : Diagnostic Id} {old new : Sink} (r : Result (Unit {0}) Error) → AreFiles files
    → length d.labels.items ≡ 0
    → Writes old
    (header_row_with_newline d None
    ++ stream_of_rows (context_of renderer_config d.severity 0) (closing_rows d)) r new
    → IfErr r IsIo
    → WritesStyled Rich renderer_config view_config files d old r new
bare-whole {renderer_config = renderer_config} {view_config = view_config} {files = files} {d = d}
    r lawful no_labels writes io =
    let none : labels_of d ≡ [] = ap (map label_of) (nil_from_length d.labels.items no_labels) in
    finished
    (ap (λ (xs : List (LabelInFile _)). first_error files.failure
    (early_lookups files xs view_config)) none)
    (output_with [] lawful
    (subst (λ (xs : List (LabelInFile _)). AllZip IsLocusOfFile
    (labeled_file_models files.same files.file xs) []) (sym none) tt)
    (ap (λ rows. header_row_with_newline d None ++ stream_of_rows
    (context_of renderer_config d.severity 0) rows)
    (sym (closing-same renderer_config.max_width (context_of renderer_config d.severity 0)
    (notes_of d)))
    ∙ ap (λ (xs : List (LabelInFile _)). fitted_stream renderer_config.max_width
    (context_of renderer_config d.severity
    (padding_of view_config (labeled_file_models files.same files.file xs)))
    (HeaderRow None (header_text_of d) ∷ (note_rows (notes_of d) ++ (FinalRow ∷ []))))
    (sym none)))
    r
    (ap (λ (xs : List (LabelInFile _)). first_error files.failure
    (late_lookups files xs view_config)) none)
    writes io

-- ---- before the header

-- a view with labels is ready to render: what it needs has been looked up, and the lookups before
-- the header have succeeded
pub record IsReady {Id : Type 0} (view_config : Config) (database : FileDatabase Id)
    (d : Diagnostic Id) (numbers : List ℕ) (collected : Collected Id) : Type 0 where
  pub lawful : AreFiles database
  pub some : 0 < length d.labels.items
  pub looked_up : IsLookedUpEarly database view_config (labels_of d) numbers collected
  pub early : early_failure view_config database d ≡ None

-- what the lookups before the header fail with, where these are the labels
abbrev early_of : {Id : Type 0} → FileDatabase Id → Config → List (Label Id) → Option Error
early_of files view_config ls =
    first_error files.failure (early_lookups files (map label_of ls) view_config)

-- the labels' lookups succeeded, and those of their files decide
early-is : {Id : Type 0} (view_config : Config) (database : FileDatabase Id)
    {source_labels items : List (Label Id)} → source_labels ≡ items
    → labels_failure view_config database (map label_of source_labels) ≡ None
    → early_of database view_config items
    ≡ later_failure database view_config (map label_of source_labels)
early-is view_config database {source_labels} same succeeded =
    grind (arith, common_steps, labels-succeeded)

module _ {Id : Type 0} {view_config : Config} {database : FileDatabase Id} {d : Diagnostic Id}
    {source_labels : List (Label Id)} (lawful : AreFiles database)
    (some : 0 < length d.labels.items) (source_labels_are : source_labels ≡ d.labels.items) where
  -- a label's lookup failed
  pub failed-collecting : {renderer_config : Config} {s : Sink} {e : Error}
      → (e ≢ OutOfMemory
      → labels_failure view_config database (map label_of source_labels) ≡ Some e)
      → WritesStyled Rich renderer_config view_config database d s (Err e) s
  failed-collecting {e = e} known =
      failed_early lawful (some_early database view_config d.labels.items some)
      (λ memory display. ap (early_of database view_config) (sym source_labels_are)
      ∙ labels-failed database view_config (map label_of source_labels) e (known memory))

  module _ (succeeded : labels_failure view_config database (map label_of source_labels) ≡ None)
    where
      -- a later lookup failed
      pub failed-looking_up : {renderer_config : Config} {s : Sink} {e : Error}
          → (e ≢ OutOfMemory → e ≢ FormatError
          → later_failure database view_config (map label_of source_labels) ≡ Some e)
          → WritesStyled Rich renderer_config view_config database d s (Err e) s
      failed-looking_up known =
          failed_early lawful (some_early database view_config d.labels.items some)
          (λ memory display. early-is view_config database source_labels_are succeeded
          ∙ known memory display)

      -- all of these lookups succeed
      pub ready : {numbers : List ℕ} {collected : Collected Id}
          → IsLookedUpEarly database view_config (map label_of source_labels) numbers collected
          → later_failure database view_config (map label_of source_labels) ≡ None
          → IsReady view_config database d numbers collected
      ready {numbers} {collected} looked_up known = record {
        lawful = lawful;
        some = some;
        looked_up =
            subst (λ ls. IsLookedUpEarly database view_config (map label_of ls) numbers collected)
            source_labels_are looked_up;
        early = early-is view_config database source_labels_are succeeded ∙ known;
      }

-- ---- from the header on

module _ {Id : Type 0} (renderer_config : Config) {view_config : Config}
    {database : FileDatabase Id} {d : Diagnostic Id} {numbers : List ℕ} {collected : Collected Id}
    (ready : IsReady view_config database d numbers collected) where
  -- rows of the output, as a configuration renders them
  abbrev rows_by : Config → List Row → Stream
  rows_by k =
      fitted_stream k.max_width (context_of k d.severity collected.padding.digit_count)

  -- the rows after the snippets
  abbrev end_by : Config → Stream
  end_by k =
      stream_of_rows (context_of k d.severity collected.padding.digit_count) (closing_rows d)

  -- the header
  abbrev header : Stream
  header = header_row_with_newline d None

  -- the snippets
  abbrev middle : Stream
  middle = rows_by renderer_config (snippet_rows view_config database d collected)

  -- the notes and the empty line
  abbrev end : Stream
  end = end_by renderer_config

  -- all of these are an output
  output-is : IsRichOutput renderer_config view_config database d ((header ++ middle) ++ end)
  output-is =
      let rows = snippet_rows view_config database d collected in
      let context = context_of renderer_config d.severity collected.padding.digit_count in
      let width = renderer_config.max_width in
      output_with (loci_view collected.files.items) ready.lawful
      (loci-of_all ready.lawful ready.looked_up.collected_is ready.looked_up.loci)
      (sym
      (ap
      (λ n. fitted_stream width (context_of renderer_config d.severity n)
      ((HeaderRow None (header_text_of d) ∷ rows) ++ note_rows (notes_of d) ++ (FinalRow ∷ [])))
      (sym ready.looked_up.padding_is)
      ∙ ap (fitted_stream width context)
      (append_assoc (HeaderRow None (header_text_of d) ∷ rows) (note_rows (notes_of d))
      (FinalRow ∷ []))
      ∙ fitted-append width context (HeaderRow None (header_text_of d) ∷ rows)
      (note_rows (notes_of d) ++ (FinalRow ∷ []))
      ∙ ap
      (λ rs. fitted_stream width context (HeaderRow None (header_text_of d) ∷ rows)
      ++ stream_of_rows context rs)
      (closing-same width context (notes_of d))))

  -- the whole was rendered, with the lookups after the header, however that ended
  whole : {old new : Sink} (r : Result (Unit {0}) Error)
      → WritesWithLookups (late_failure view_config database d) old ((header ++ middle) ++ end) r
      new
      → WritesStyled Rich renderer_config view_config database d old r new
  whole r run =
      rendered ready.early output-is r
      (some_late database view_config d.labels.items ready.some) run

  -- the header was cut short
  pub failed-in_header : {old new : Sink} {e : Error} → WrotePrefix old header new → IsIo e
      → WritesStyled Rich renderer_config view_config database d old (Err e) new
  failed-in_header wrote io =
      whole (Err _) (record { ends = inl (io, failed-before end (failed-before middle wrote)) })

  module _ {second : Config} {old mid : Sink} (wrote : WroteStream old header mid)
      (equal : second ≡ renderer_config) where
    -- header and snippets were rendered, by an equal configuration, however that ended
    both : {r : Result (Unit {0}) Error} {new : Sink}
        → RendersSnippets view_config database d collected second mid r new
        → WritesWithLookups (late_failure view_config database d) old (header ++ middle) r new
    both {r} {new} part =
        run_then (run_of_writes (Ok tt) wrote tt)
        (subst (λ k. RendersSnippets view_config database d collected k mid r new) equal part)

    -- the snippets were cut short
    pub failed-in_snippets : {new : Sink} {e : Error}
        → RendersSnippets view_config database d collected second mid (Err e) new
        → WritesStyled Rich renderer_config view_config database d old (Err e) new
    failed-in_snippets part =
        whole (Err _) (run_as (or_failure-none _) refl (run_cut None end (both part)))

    -- the snippets have been written, and then the notes were written
    pub rendered-whole : {third : Config} {last new : Sink} (r : Result (Unit {0}) Error)
        → RendersSnippets view_config database d collected second mid (Ok tt) last
        → third ≡ renderer_config → Writes last (end_by third) r new
        → IfErr r IsIo
        → WritesStyled Rich renderer_config view_config database d old r new
    rendered-whole {third} {last} {new} r part equal_end writes io =
        whole r
        (run_as (or_failure-none _) refl
        (run_then (both part)
        (run_of_writes r
        (subst (λ k. Writes last (end_by k) r new) equal_end writes) io)))
