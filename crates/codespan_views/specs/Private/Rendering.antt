-- Calls that render by a renderer: with its configuration, to its writer; and calls that write rows
-- to its row writer. What the views render by them: the rows of a snippet but for its lines, the
-- header, the snippets, and the rows after them.
use Rattle.std.specs.Prelude.{ℕ, List, [], ◌∷◌, ◌++◌, Option, Result, IfErr}
use Rattle.codespan_core.specs.Errors.{IsIo}
use Rattle.codespan_core.specs.FileModel.{FileDatabase}
use Rattle.codespan_core.specs.Streams.{Stream, newline}
use Rattle.codespan_core.specs.WriterLaw.{Sink, Writes}
use Rattle.codespan_output.specs.Types.{Diagnostic, Severity, Error, Config}
use Rattle.codespan_output.specs.declared.rows.line.RowContext.{RowContext}
use Rattle.codespan_output.specs.Private.LineViews.{context_view}
use Rattle.codespan_output.specs.Lookups.{first_error, late_lookups}
use Rattle.codespan_output.specs.OutputStreams.{header_text_of, labels_of, context_of, notes_of}
use Rattle.codespan_output.specs.OutputStreams.{fitted_stream}
use Rattle.codespan_output.specs.declared.arguments.Locus.{Locus as RustLocus}
use Rattle.codespan_output.specs.Arguments.{locus_view}
use Rattle.codespan_output.specs.Rows.{EmptyRow, FinalRow, Locus, Row, SnippetStartRow}
use Rattle.codespan_output.specs.RowStreams.{header_row, stream_of_rows}
use Rattle.codespan_output.specs.Snippets.{snippets, labeled_file_models, note_rows}
use Rattle.codespan_renderer.specs.declared.term.renderer.Renderer.{Renderer}
use Rattle.codespan_renderer.specs.declared.term.renderer.row_writer.RowWriter.{RowWriter}
use Rattle.codespan_renderer.specs.Private.RowWriters.{row_writer_sink}
use Rattle.codespan_renderer.specs.Renderers.{Renders, config_of}
use Rattle.codespan_views.specs.Private.Types.{Collected}
use Rattle.codespan_views.specs.Private.LabeledFiles.{loci_view}
use Rattle.codespan_views.specs.Private.LookupsWhileRendering.{WritesWithLookups}
use Rattle.codespan_output.specs.Private.LineRows.{has_any}

-- ---- rows of a snippet of so many lanes

-- an empty row
abbrev pub snippet_empty_row : ℕ → Row
snippet_empty_row count = EmptyRow (record { count = count; lane_marks = [] })

-- the first rows
abbrev pub first_rows : ℕ → RustLocus → List Row
first_rows count locus = SnippetStartRow (locus_view locus) ∷ snippet_empty_row count ∷ []

-- ---- calls

module _ {W : Type 0} (sink : W → Sink) where
  -- the call renders these rows
  abbrev pub RendersRows : Severity → ℕ → List Row → Renderer W → Result (Unit {0}) Error
      → Renderer W → Type 0
  RendersRows severity padding rows old =
      Renders sink (stream_of_rows (context_of (config_of old) severity padding) rows) old

  -- the call writes these rows to a row writer; it fails with `Io` alone
  pub record WritesRows (context : RowContext) (rows : List Row) (old : RowWriter W)
      (r : Result (Unit {0}) Error) (new : RowWriter W) : Type 0 where
    pub writes : Writes (row_writer_sink sink old) (stream_of_rows (context_view context) rows) r
        (row_writer_sink sink new)
    pub io : IfErr r IsIo

-- ---- what the views render

module _ {Id : Type 0} (d : Diagnostic Id) where
  -- the header, with this locus, if any, and with the end of its row
  abbrev pub header_row_with_newline : Option Locus → Stream
  header_row_with_newline locus = header_row d.severity locus (header_text_of d) ++ newline

  -- the last rows of a rich output: the notes, and the final row
  abbrev pub closing_rows : List Row
  closing_rows = note_rows (notes_of d) ++ FinalRow ∷ []

module _ {Id : Type 0} (view_config : Config) (database : FileDatabase Id) (d : Diagnostic Id) where
  -- the error of the first of the lookups after the header of a rich output that fails
  abbrev pub late_failure : Option Error
  late_failure = first_error database.failure (late_lookups database (labels_of d) view_config)

  module _ (collected : Collected Id) where
    -- the rows of its snippets, which start at the loci of the files that were collected
    abbrev pub snippet_rows : List Row
    snippet_rows =
        snippets view_config (has_any (notes_of d)) (loci_view collected.files.items)
        (labeled_file_models database.same database.file (labels_of d))

    -- the call renders the snippets by this configuration, and makes their lookups
    abbrev pub RendersSnippets : Config → Sink → Result (Unit {0}) Error → Sink → Type 0
    RendersSnippets config old =
        WritesWithLookups late_failure old
        (fitted_stream config.max_width
        (context_of config d.severity collected.padding.digit_count) snippet_rows)
