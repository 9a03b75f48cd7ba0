-- Rendering with lookups on the way, and so the lines of one snippet.
use Rattle.std.specs.Prelude.{◌≡◌, ℕ, List, Result, ◌≢◌, ◌⊎◌, true, Option}
use Rattle.std.specs.Prelude.{Some, None, MatchResult}
use Rattle.std.specs.List.{AllByRecursion}
use Rattle.codespan_core.specs.Errors.{IsIo}
use Rattle.codespan_core.specs.FileModel.{FileDatabase}
use Rattle.codespan_core.specs.Streams.{Stream}
use Rattle.codespan_core.specs.WriterLaw.{Sink, Writes, is_known, PrefixWritten}
use Rattle.codespan_output.specs.Private.LineViews.{context_view}
use Rattle.codespan_output.specs.OutputStreams.{fitted_stream}
use Rattle.codespan_output.specs.Types.{Error, OutOfMemory}
use Rattle.codespan_views.specs.Private.SnippetLines.{SnippetLine, AreInOrder, filled_lines_of}
use Rattle.codespan_views.specs.Private.SnippetLines.{rows_of_lines, AreNumbersOf, lookups_with}
use Rattle.codespan_views.specs.Private.SnippetLines.{IsLineFittable}
use Rattle.codespan_views.specs.Private.SourceFiles.{failure_of, model_of}
use Rattle.codespan_views.specs.declared.snippet.Snippet.{Snippet}

-- a lookup or an allocation failed after a prefix of the stream
pub record FailedWithLookups (failure : Option Error) (old : Sink) (items : Stream) (error : Error)
    (new : Sink) : Type 0 where
  pub frame : new.frame ≡ old.frame
  pub prefix : is_known old ≡ true → PrefixWritten old items new
  pub error_is : error ≢ OutOfMemory → failure ≡ Some error

-- the call writes the stream and makes lookups on the way, the first error of which is `failure`:
-- it succeeds where none fails, and otherwise the writer, a lookup or an allocation failed
pub record WritesWithLookups (failure : Option Error) (old : Sink) (items : Stream)
    (r : Result (Unit {0}) Error) (new : Sink) : Type 0 where
  pub ends : MatchResult r (λ _. (failure ≡ None) × Writes old items r new)
      (λ e. (IsIo e × Writes old items r new) ⊎ FailedWithLookups failure old items e new)

module _ {F Id Name Source : Type 0} (database_of : F → FileDatabase Id)
    (snippet : Snippet F Id Name Source) (numbers : List ℕ) (snippet_lines : List SnippetLine)
  where
    -- the snippet has the source of its file, the labels of each of these lines are in order, each
    -- can be fitted to a width, and these are the known numbers of the filled ones
    pub record HasLines : Type 0 where
      pub source : snippet.source.now ≡ (model_of database_of snippet.file).text
      pub in_order : AreInOrder snippet.num_multi_labels snippet_lines
      pub fittable : AllByRecursion
          (IsLineFittable (model_of database_of snippet.file) snippet.num_multi_labels)
          snippet_lines
      pub numbers_are : AreNumbersOf (model_of database_of snippet.file) numbers
          (filled_lines_of snippet_lines)

    -- the call renders these lines, one after another, and makes the lookups of the filled ones,
    -- whose known numbers these are
    pub record RendersLines (old : Sink) (r : Result (Unit {0}) Error) (new : Sink) : Type 0 where
      pub rendered : WritesWithLookups
          (failure_of database_of snippet.file
          (lookups_with numbers (filled_lines_of snippet_lines)))
          old (fitted_stream snippet.max_width (context_view snippet.context)
          (rows_of_lines (model_of database_of snippet.file) snippet.num_multi_labels
          snippet_lines))
          r new
