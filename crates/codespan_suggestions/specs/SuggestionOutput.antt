-- The output of a suggestion, and what the calls that emit it do.
use Rattle.std.specs.Prelude.{◌≡◌, ◌⊎◌, ℕ, List, Result, MatchResult, None, Option}
use Rattle.std.specs.Prelude.{string_bytes}
use Rattle.codespan_core.specs.FileModel.{FileDatabase}
use Rattle.codespan_core.specs.Errors.{IsIo}
use Rattle.codespan_core.specs.Streams.{Stream}
use Rattle.codespan_core.specs.WriterLaw.{Sink, WritesOrPrefix, failed_frame}
use Rattle.codespan_output.specs.Types.{Config, DisplayStyle, Rich}
use Rattle.codespan_suggestions.specs.DrawnFiles.{DrawnFile, context_of, drawn_files}
use Rattle.codespan_suggestions.specs.DrawnFiles.{NamesAreStated}
use Rattle.codespan_suggestions.specs.NamedFiles.{named_files_fault, IsFault}
use Rattle.codespan_suggestions.specs.SuggestionRows.{Row, RowSettings, rich_rows, short_rows}
use Rattle.codespan_suggestions.specs.SuggestionRows.{padding_of, stream_of_rows}
use Rattle.codespan_suggestions.specs.declared.suggestion.Suggestion.{Suggestion}
use Rattle.codespan_suggestions.specs.declared.error.SuggestionError.{SuggestionError}
use Rattle.codespan_suggestions.specs.declared.error.SuggestionError.TheVariants.{Edit, Files}

-- the rows of an output in a style
abbrev pub rows_in : DisplayStyle → List DrawnFile → List Row
rows_in Rich files = rich_rows files
rows_in _ files = short_rows files

-- what the rows are rendered by
abbrev pub settings_of : Config → List ℕ → List DrawnFile → RowSettings
settings_of config message files = record {
  chars = config.chars;
  tab_width = config.tab_width;
  padding = padding_of files;
  message = message;
}

-- the output with this message and these files
abbrev pub output_of : Config → List ℕ → List DrawnFile → Stream
output_of config message files =
    stream_of_rows (settings_of config message files) (rows_in config.display_style files)

-- the error is `Io`
abbrev pub IsIoError : SuggestionError → Type 0
IsIoError (Edit e) = ⊥
IsIoError (Files e) = IsIo e

module _ {Id : Type 0} (config : Config) (database : FileDatabase Id) (s : Suggestion Id) where
  -- the output of a suggestion
  abbrev pub suggestion_stream : Stream
  suggestion_stream =
      output_of config (string_bytes s.message)
      (drawn_files (context_of config) database s.edits.items)

  -- the fault of a suggestion: the first lookup that fails, or the first fault of edits
  abbrev pub rendering_fault : Option SuggestionError
  rendering_fault = named_files_fault database s.edits.items

  -- the call fails before it writes
  pub record FailsBefore (old : Sink) (e : SuggestionError) (new : Sink) : Type 0 where
    pub nothing : new ≡ old
    pub fault : IsFault rendering_fault e

  -- the writer fails
  pub record FailsWriting (old : Sink) (e : SuggestionError) (new : Sink) : Type 0 where
    pub io : IsIoError e
    pub frame : new.frame ≡ failed_frame old.frame
    pub no_fault : rendering_fault ≡ None

  -- the call writes the output, or a prefix of it where the writer fails; it writes nothing where
  -- it fails otherwise
  pub record WritesSuggestion (old : Sink) (r : Result (Unit {0}) SuggestionError) (new : Sink)
      : Type 0 where
    pub received : NamesAreStated database s.edits.items
        → WritesOrPrefix old suggestion_stream r new
    pub on_end :
        MatchResult r (λ _. (new.frame ≡ old.frame) × (rendering_fault ≡ None))
        (λ e. FailsBefore old e new ⊎ FailsWriting old e new)
