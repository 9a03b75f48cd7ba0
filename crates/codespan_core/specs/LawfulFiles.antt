-- What the lookups of a file return, when a file is lawful, and what the default columns and
-- locations are.
use Rattle.std.specs.Prelude.{◌≡◌, ◌≢◌, ℕ, ◌+◌, ◌-◌, ◌<◌, ◌≤◌}
use Rattle.std.specs.Prelude.{◌↔◌, true, false, [], length, slice_index, Option, Some, None}
use Rattle.std.specs.Prelude.{Result, MatchResult, IfErr, ◌^◌, ◌==◌, if◌then◌else◌}
use Rattle.std.specs.Str.{IsCharBoundary, IsUtf8}
use Rattle.std.specs.declared.ops.Range.{Range}
use Rattle.codespan_core.specs.declared.files.error.Error.{Error}
use Rattle.codespan_core.specs.declared.files.error.Error.TheVariants.{LineTooLarge, OutOfMemory}
use Rattle.codespan_core.specs.declared.files.Location.{Location}
use Rattle.codespan_core.specs.Lines.{column_index_of}
use Rattle.codespan_core.specs.FileModel.{FileModel, Lookup, line_of, or_failure}
use Rattle.codespan_core.specs.FileModel.Lookup.{Source, LineIndex, LineNumber, ColumnNumber}
use Rattle.codespan_core.specs.FileModel.Lookup.{LineRange}

-- the range of line i
pub record IsLineRange (f : FileModel) (i : ℕ) (r : Range ℕ) : Type 0 where
  pub inside : i < length f.starts
  pub start_is : r.start ≡ slice_index f.starts i
  pub end_is : r.end ≡ slice_index f.ends i

-- where the call succeeds there is no such error, and where it fails it returns this error or
-- `OutOfMemory`
abbrev pub FailsBy : {T : Type 0} → Option Error → Result T Error → Type 0
FailsBy o r = MatchResult r (λ _. o ≡ None) (λ e. e ≢ OutOfMemory → o ≡ Some e)

-- the call does not fail with `OutOfMemory`
abbrev pub NeedsNoMemory : {T : Type 0} → Result T Error → Type 0
NeedsNoMemory r = IfErr r (λ e. e ≢ OutOfMemory)

-- the text is UTF-8, short enough for a `str`, and cut into lines; an id that names no file has an
-- empty name and an empty text
pub record IsLawful (f : FileModel) : Type 0 where
  -- the text
  pub is_utf8 : IsUtf8 f.text
  pub fits : length f.text < 2 ^ 64
  -- lines start in strictly ascending order, the first one at byte 0
  pub has_line : 0 < length f.starts
  pub first : slice_index f.starts 0 ≡ 0
  pub ascending : (i : ℕ) → i + 1 < length f.starts
      → slice_index f.starts i < slice_index f.starts (i + 1)
  -- starts and ends are character boundaries
  pub starts_on_boundaries : (i : ℕ) → i < length f.starts
      → IsCharBoundary f.text (slice_index f.starts i)
  pub ends_on_boundaries : (i : ℕ) → i < length f.starts
      → IsCharBoundary f.text (slice_index f.ends i)
  -- each line ends at its start or after it, and not after the next line's start
  pub ends_after_start : (i : ℕ) → i < length f.starts
      → slice_index f.starts i ≤ slice_index f.ends i
  pub ends_before_next : (i : ℕ) → i + 1 < length f.starts
      → slice_index f.ends i ≤ slice_index f.starts (i + 1)
  -- there are as many ends as starts
  pub same_length : length f.ends ≡ length f.starts
  -- an id that names no file
  pub missing_name : f.exists ≡ false → f.name ≡ Some []
  pub missing_text : f.exists ≡ false → f.text ≡ []

-- the error is `LineTooLarge`
abbrev pub IsLineTooLarge : Error → Type 0
IsLineTooLarge (LineTooLarge given max) = Unit {0}
IsLineTooLarge _ = ⊥

-- the lookup fails with `LineTooLarge`, as that of the range of a line past the last one does
abbrev pub IsPastLastLineError : Option Error → Type 0
IsPastLastLineError None = ⊥
IsPastLastLineError (Some e) = IsLineTooLarge e

-- of a file that exists, a line fails with `LineTooLarge` exactly where it is past the last
abbrev pub FailsPastLastLine : FileModel → ℕ → Option Error → Type 0
FailsPastLastLine f i o = f.exists ≡ true → IsPastLastLineError o ↔ (length f.starts ≤ i)

-- the column of a byte on line i, counted from 0
abbrev pub column_index_on : FileModel → ℕ → ℕ → ℕ
column_index_on f i byte =
    column_index_of f.text (slice_index f.starts i) (slice_index f.ends i) byte

-- the number of the byte's line, and its column number there
abbrev pub location_of : FileModel → ℕ → Location
location_of f byte =
    let i = line_of f.starts byte in
    record { line_number = f.line_number i; column_number = f.column_number i byte }

-- what the number of a line fails with, where it is the index plus 1
abbrev pub line_number_failure : ℕ → Option Error
line_number_failure i = if i == 2 ^ 64 - 1 then Some (LineTooLarge i (2 ^ 64 - 2)) else None

-- what the default column number fails with
abbrev pub column_number_failure : (Lookup → Option Error) → ℕ → Option Error
column_number_failure failure i = or_failure (failure Source) (failure (LineRange i))

-- what the default location fails with
abbrev pub location_failure : FileModel → (Lookup → Option Error) → ℕ → Option Error
location_failure f failure byte =
    let i = line_of f.starts byte in
    or_failure (failure (LineIndex byte))
    (or_failure (failure (LineNumber i)) (failure (ColumnNumber i byte)))

-- the byte at which line i ends
abbrev pub line_end : FileModel → ℕ → ℕ
line_end f i = slice_index f.ends i
