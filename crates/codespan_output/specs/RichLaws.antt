-- What an output is, and what a rich one means.
use Rattle.std.specs.Prelude.{◌≡◌, ℕ, ◌≤◌, Bool, List, [], ◌∷◌, ◌++◌, None}
use Rattle.std.specs.Prelude.{Contains, flat_map, Option}
use Rattle.std.specs.List.{AllByRecursion, AllZip}
use Rattle.codespan_output.specs.Types.{Config, Diagnostic, DisplayStyle, Rich}
use Rattle.codespan_core.specs.FileModel.{FileDatabase}
use Rattle.codespan_core.specs.Labels.{LabelModel}
use Rattle.codespan_core.specs.Streams.{Stream}
use Rattle.codespan_output.specs.FittedLines.{fitted_row}
use Rattle.codespan_output.specs.Rows.{Locus, Line, Row, RowContext, HeaderRow, FinalRow}
use Rattle.codespan_output.specs.RowParts.{line_metrics}
use Rattle.codespan_output.specs.Snippets.{LabeledFileModel, empty_row_after, note_rows}
use Rattle.codespan_output.specs.Snippets.{snippet}
use Rattle.codespan_output.specs.Padding.{padding_of}
use Rattle.codespan_output.specs.OutputStreams.{AreLoci, files_of, context_of, header_text_of}
use Rattle.codespan_output.specs.OutputStreams.{fitted_stream, notes_of, output}
use Rattle.codespan_output.specs.CaretLaws.{CaretsAreCells, StartsHaveCells, PointersAreCells}
use Rattle.codespan_output.specs.LaneLaws.{BarsAreLabels, LanesJoinCorners, LanesAreShown}
use Rattle.codespan_output.specs.LaneLaws.{shape_in}
use Rattle.codespan_output.specs.LineLaws.{BreaksReplaceLines, BreaksHaveBars, RowsAreOfShownLines}
use Rattle.codespan_output.specs.LineLaws.{SourceRowsAreFew, PaddingFits}
use Rattle.codespan_output.specs.MessageLaws.{MessagesAppearOnce}

-- no label of a file starts after its end
abbrev pub NoneReversed : List LabelModel → Type 0
NoneReversed labels = (x : LabelModel) → Contains labels x → x.start ≤ x.end

-- what a row shows in each lane does not depend on the width that its line fits
abbrev pub LanesStay : Option ℕ → RowContext → Row → Type 0
LanesStay width context row = (lane : ℕ)
    → shape_in context.layout (fitted_row width context row) lane
    ≡ shape_in context.layout row lane

-- what these rows of one file mean, its snippet with the empty row after it, if it has one: the
-- view's configuration chooses its lines, and the context and the width that they fit are those of
-- the renderer
pub record SnippetMeansLabels (view_config : Config) (width : Option ℕ) (context : RowContext)
    (s : LabeledFileModel) (rows : List Row) : Type 0 where
  pub locus : Locus
  pub is_followed : Bool
  pub rows_are : rows ≡ snippet view_config locus s ++ empty_row_after is_followed s
  pub drawn : RowsAreOfShownLines view_config s
  pub breaks : BreaksReplaceLines view_config s rows
  pub few : SourceRowsAreFew view_config s rows
  pub bars : NoneReversed s.labels → BarsAreLabels context.layout s
  pub break_bars : NoneReversed s.labels → BreaksHaveBars view_config context.layout s
  pub lanes : NoneReversed s.labels → LanesJoinCorners context.layout s rows
  pub lanes_stay : AllByRecursion (LanesStay width context) rows

module _ {Id : Type 0} (renderer_config view_config : Config) (files : FileDatabase Id)
    (d : Diagnostic Id) where
  -- what the rows of the rich output are rendered by
  abbrev pub rich_context : RowContext
  rich_context = context_of renderer_config d.severity (padding_of view_config (files_of files d))

  -- what a rich output with these loci means, and which rows of it are each file's
  pub record MeansLabels (loci : List Locus) (stream : Stream) : Type 0 where
    pub rows : List (List Row)
    pub stream_is : stream ≡ fitted_stream renderer_config.max_width rich_context
        ((HeaderRow None (header_text_of d) ∷ flat_map (λ of_file. of_file) rows)
        ++ note_rows (notes_of d) ++ (FinalRow ∷ []))
    pub each_file : AllZip
        (SnippetMeansLabels view_config renderer_config.max_width rich_context)
        (files_of files d) rows
    pub carets : (context : RowContext) → CaretsAreCells context
    pub pointers : (context : RowContext) (line : Line)
        → StartsHaveCells line.labels (line_metrics context line)
        → PointersAreCells context line
    pub lanes : (context : RowContext) → LanesAreShown context
    pub messages : MessagesAppearOnce renderer_config view_config files d loci stream
    pub padding_fits : PaddingFits view_config (files_of files d)

module _ {Id : Type 0} (style : DisplayStyle) (renderer_config view_config : Config)
    (files : FileDatabase Id) (d : Diagnostic Id) where
  -- the stream is the output with some loci, and in rich style it means the labels
  pub record IsOutput (stream : Stream) : Type 0 where
    pub loci : List Locus
    pub are_loci : AreLoci files d style loci
    pub stream_is : stream ≡ output style renderer_config view_config files d loci
    pub means : style ≡ Rich → MeansLabels renderer_config view_config files d loci stream
