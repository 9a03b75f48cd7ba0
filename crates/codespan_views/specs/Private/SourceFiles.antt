-- A file of an output, as the code has it, and what is looked up in it.
use Rattle.std.specs.Prelude.{List, Option, ◌≡◌, ◌≢◌, Some, None, Result, MatchResult}
use Rattle.std.specs.Prelude.{[], ◌∷◌, ◌≤◌, ℕ, true, nat_lt, ◌&&◌}
use Rattle.std.specs.Prelude.{if◌then◌else◌}
use Rattle.codespan_core.specs.FileModel.Lookup.{LineRange, LineNumber}
use Rattle.codespan_core.specs.FileModel.{FileDatabase, FileModel, line_count, Lookup, or_failure}
use Rattle.codespan_output.specs.Lookups.{Failures, lookups_of_file, first_error}
use Rattle.codespan_output.specs.Lookups.{ends_context_lines}
use Rattle.codespan_output.specs.Types.{Error, FormatError, OutOfMemory}
use Rattle.codespan_views.specs.declared.source_file.SourceFile.{SourceFile}

-- the error of the first of these lookups of a file that fails
abbrev pub failure_in : {Id : Type 0} → Failures Id → Id → List Lookup → Option Error
failure_in failure id lookups = first_error failure (lookups_of_file id lookups)

-- the result of lookups, the first error of which is this: on `Ok` none of them failed; an error is
-- that one, `OutOfMemory`, or `FormatError`, as where the `Display` of a name fails
abbrev pub FailsByOrFormatError : {T : Type 0} → Option Error → Result T Error → Type 0
FailsByOrFormatError o r =
    MatchResult r (λ _. o ≡ None)
    (λ e. e ≢ OutOfMemory → e ≢ FormatError → o ≡ Some e)

-- the lookups of a line: its range, and its number where that is not known
abbrev pub lookups_of_filled : Option ℕ → ℕ → List Lookup
lookups_of_filled None l = LineRange l ∷ LineNumber l ∷ []
lookups_of_filled (Some number) l = LineRange l ∷ []

-- what the lookups of a line fail with: its range, and its number where the file has the line;
-- nothing, where the line is after a label's last one and its range fails with `LineTooLarge`
abbrev pub line_failure_unless_past_end : FileModel → (Lookup → Option Error) → ℕ → ℕ
    → Option Error
line_failure_unless_past_end f failure last l =
    if nat_lt last l && ends_context_lines (failure (LineRange l)) then None
    else or_failure (failure (LineRange l))
    (if nat_lt l (line_count f) then failure (LineNumber l) else None)

module _ {F Id Name Source : Type 0} (database_of : F → FileDatabase Id)
    (file : SourceFile F Id Name Source) where
  -- the file
  abbrev pub model_of : FileModel
  model_of = (database_of file.files.now).file file.file_id

  -- what these lookups of the file fail with
  abbrev pub failure_of : List Lookup → Option Error
  failure_of = failure_in (database_of file.files.now).failure file.file_id

  -- the file ends before a line, and the line's range fails as past the end
  abbrev pub EndsBefore : ℕ → Type 0
  EndsBefore l =
      (line_count model_of ≤ l)
      × (ends_context_lines ((database_of file.files.now).failure file.file_id (LineRange l))
      ≡ true)

  -- what the lookups of a line of the file fail with; the first argument is a label's last line
  abbrev pub failure_unless_past_end : ℕ → ℕ → Option Error
  failure_unless_past_end =
      line_failure_unless_past_end model_of ((database_of file.files.now).failure file.file_id)
