-- What the calls for C do that convert between bytes of a file and positions of editors. The byte
-- indices and the lines of both are those of the file, of which the source may be a window.
use Rattle.std.specs.Prelude.{◌≡◌, ◌≢◌, ◌≤◌, ◌<◌, ◌⊎◌, ℕ, ◌+◌, ◌-◌, ◌^◌, min, nat_lt, ◌==◌}
use Rattle.std.specs.Prelude.{if◌then◌else◌, [], ◌∷◌, Option, Some, None}
use Rattle.codespan_base.specs.declared.files.Error.{Error}
use Rattle.codespan_base.specs.declared.files.Error.TheVariants.{LineTooLarge}
use Rattle.codespan_base.specs.FileModel.{FileDatabase, or_failure}
use Rattle.codespan_lsp.specs.declared.encoding.PositionEncoding.{PositionEncoding}
use Rattle.codespan_lsp.specs.declared.encoding.PositionEncoding.TheVariants.{Utf8, Utf16, Utf32}
use Rattle.codespan_lsp.specs.declared.positions.Position.{Position}
use Rattle.codespan_lsp.specs.Positions.{position_of, position_failure, IsByteAt, byte_failure}
use Rattle.codespan_lsp.specs.Positions.{u32_max}
use Rattle.codespan_native.specs.declared.error.Argument.{Argument}
use Rattle.codespan_native.specs.declared.error.Argument.TheVariants.{FileName, FileSource}
use Rattle.codespan_native.specs.declared.error.Argument.TheVariants.{FileLines, FileLocations}
use Rattle.codespan_native.specs.declared.error.Argument.TheVariants.{FileReserved}
use Rattle.codespan_native.specs.declared.error.EditorArgument.TheVariants.{Encoding}
use Rattle.codespan_native.specs.declared.raw.Detail.{Detail}
use Rattle.codespan_native.specs.declared.raw.RawFile.{RawFile}
use Rattle.codespan_native.specs.declared.raw.RawPosition.{RawPosition}
use Rattle.codespan_native.specs.Converted.{converted_files}
use Rattle.codespan_native.specs.EditorArguments.{argument_detail, editor_detail}
use Rattle.codespan_native.specs.EditorArguments.{error_detail}
use Rattle.codespan_native.specs.Statuses.{OK, OUT_OF_MEMORY, INVALID}
use Rattle.codespan_native.specs.ValidParts.{IsValidFile}
use Rattle.codespan_native.specs.Validity.{HasValidName, HasValidSource, HasValidLines}
use Rattle.codespan_native.specs.Validity.{HasValidLocations, HasZeroReserved, no_detail}

-- ---- the arguments

-- the encoding of a number
abbrev pub encoding_of : ℕ → PositionEncoding
encoding_of n = if n == 0 then Utf16 else if n == 1 then Utf8 else Utf32

-- a file whose fields are all valid
pub record IsUsableFile (f : RawFile) : Type 0 where
  pub valid : IsValidFile f
  pub reserved : HasZeroReserved f

-- the first invalid field of a file, in the order of the numbers
abbrev pub IsFirstInvalidField : RawFile → Argument → Type 0
IsFirstInvalidField f FileName = ¬ HasValidName f
IsFirstInvalidField f FileSource = HasValidName f × ¬ HasValidSource f
IsFirstInvalidField f FileLines = HasValidName f × HasValidSource f × ¬ HasValidLines f
IsFirstInvalidField f FileLocations =
    HasValidName f × HasValidSource f × HasValidLines f × ¬ HasValidLocations f
IsFirstInvalidField f FileReserved =
    HasValidName f × HasValidSource f × HasValidLines f × HasValidLocations f
    × ¬ HasZeroReserved f
IsFirstInvalidField f _ = ⊥

-- valid arguments besides the byte or the position
pub record AreUsable (f : RawFile) (encoding : ℕ) : Type 0 where
  pub file : IsUsableFile f
  pub encoding_number : encoding ≤ 2

-- the detail names the first of them that is invalid
abbrev pub NamesUnusable : RawFile → ℕ → Detail → Type 0
NamesUnusable f encoding detail =
    ((a : Argument) × IsFirstInvalidField f a × (detail ≡ argument_detail a))
    ⊎ (IsUsableFile f × (2 < encoding) × (detail ≡ editor_detail Encoding 0))

-- they are valid, and the detail names this error
abbrev pub NamesFailure : RawFile → ℕ → Option Error → Detail → Type 0
NamesFailure f encoding failure detail =
    AreUsable f encoding
    × ((e : Error) × (failure ≡ Some e) × (error_detail e ≡ Some detail))

-- ---- positions and bytes in a file

-- a position, with so many lines before its first line
abbrev pub position_from : ℕ → Position → RawPosition
position_from first_line p = record { line = first_line + p.line; character = p.character }

-- the error of a line with so many lines before the first one: its index is too great for a
-- position
abbrev pub line_failure : ℕ → ℕ → Option Error
line_failure first_line line =
    if nat_lt u32_max (first_line + line) then Some (LineTooLarge line u32_max) else None

module _ (f : RawFile) where
  -- the file database of this file, whose id is 0
  abbrev pub database_of : FileDatabase ℕ
  database_of = converted_files (f ∷ [])

  -- the position of a byte in the source
  abbrev pub position_in_source : PositionEncoding → ℕ → Position
  position_in_source encoding byte =
      position_of encoding (database_of.file 0) (byte - f.first_byte)

  -- and in the file
  abbrev pub file_position : PositionEncoding → ℕ → RawPosition
  file_position encoding byte = position_from f.first_line (position_in_source encoding byte)

  -- the error of a byte's position: of the byte, or of its line
  abbrev pub file_position_failure : PositionEncoding → ℕ → Option Error
  file_position_failure encoding byte =
      or_failure
      (position_failure encoding (database_of.file 0) (database_of.failure 0)
      (byte - f.first_byte))
      (line_failure f.first_line (position_in_source encoding byte).line)

  -- a position in the source
  abbrev pub source_position : RawPosition → Position
  source_position p = record { line = p.line - f.first_line; character = p.character }

  -- a byte, up to the greatest `size_t`, is at a position
  abbrev pub IsFileByteAt : PositionEncoding → RawPosition → ℕ → Type 0
  IsFileByteAt encoding p byte =
      (b : ℕ) × (f.first_line ≤ p.line)
      × IsByteAt encoding (database_of.file 0) (source_position p) b
      × (byte ≡ min (f.first_byte + b) (2 ^ 64 - 1))

  -- the error of a position's byte: its line is before the source, or that of the position
  abbrev pub file_byte_failure : PositionEncoding → RawPosition → Option Error
  file_byte_failure encoding p =
      if nat_lt p.line f.first_line then Some (LineTooLarge p.line u32_max)
      else byte_failure encoding (database_of.file 0) (database_of.failure 0) (source_position p)

-- ---- the calls

-- the position of the start of a file
abbrev pub no_position : RawPosition
no_position = record { line = 0; character = 0 }

-- a call that looks up such a value, or fails so, returns this status, value and detail
pub record Finds {X : Type 0} (f : RawFile) (encoding : ℕ) (IsValue : X → Type 0) (nothing : X)
    (failure : Option Error) (status : ℕ) (value : X) (detail : Detail) : Type 0 where
  pub ok : status ≡ OK → IsValue value
  pub found : status ≡ OK → failure ≡ None
  pub unset : status ≢ OK → value ≡ nothing
  pub usable : status ≤ OUT_OF_MEMORY → AreUsable f encoding
  pub named : status ≡ INVALID
      → NamesUnusable f encoding detail ⊎ NamesFailure f encoding failure detail
  pub none_named : status ≤ OUT_OF_MEMORY → detail ≡ no_detail
  pub is_status : (status ≡ OK) ⊎ ((status ≡ OUT_OF_MEMORY) ⊎ (status ≡ INVALID))

-- the call that looks up the position of a byte returns this status, position and detail
abbrev pub FindsPosition : RawFile → ℕ → ℕ → ℕ → RawPosition → Detail → Type 0
FindsPosition f encoding byte status position detail =
    Finds f encoding (λ p. p ≡ file_position f (encoding_of encoding) byte) no_position
    (file_position_failure f (encoding_of encoding) byte) status position detail

-- the call that looks up the byte of a position returns this status, byte and detail
abbrev pub FindsByte : RawFile → ℕ → RawPosition → ℕ → ℕ → Detail → Type 0
FindsByte f encoding position status byte detail =
    Finds f encoding (IsFileByteAt f (encoding_of encoding) position) 0
    (file_byte_failure f (encoding_of encoding) position) status byte detail
