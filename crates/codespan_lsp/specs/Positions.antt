-- Positions of a file, and the errors of the calls that look them up.
use Rattle.std.specs.Prelude.{◌≡◌, ℕ, ◌+◌, ◌-◌, ◌^◌, ◌<◌, ◌≤◌}
use Rattle.std.specs.Prelude.{◌==◌, nat_lt, if◌then◌else◌, List, [], ◌∷◌, length}
use Rattle.std.specs.Prelude.{slice_range, encode_utf8_all, Option, Some, None}
use Rattle.std.specs.Str.{chars, IsCharBoundary}
use Rattle.codespan_base.specs.FileModel.{FileModel, Lookup, line_count, line_of, line_start}
use Rattle.codespan_base.specs.FileModel.{line_text, or_failure}
use Rattle.codespan_base.specs.FileModel.Lookup.{Source, LineIndex, LineRange}
use Rattle.codespan_base.specs.LawfulFiles.{line_end}
use Rattle.codespan_base.specs.Lines.{is_char_boundary}
use Rattle.codespan_base.specs.declared.files.Error.{Error}
use Rattle.codespan_base.specs.declared.files.Error.TheVariants.{ColumnTooLarge}
use Rattle.codespan_base.specs.declared.files.Error.TheVariants.{InvalidCharBoundary, LineTooLarge}
use Rattle.codespan_lsp.specs.Units.{code_units, total_units, prefix_within}
use Rattle.codespan_lsp.specs.declared.encoding.PositionEncoding.{PositionEncoding}
use Rattle.codespan_lsp.specs.declared.positions.Position.{Position}

-- the first error among some, if there is one
abbrev pub first_failure : List (Option Error) → Option Error
first_failure [] = None
first_failure (o ∷ os) = or_failure o (first_failure os)

-- the code units of line i before a byte
abbrev pub units_before : PositionEncoding → FileModel → ℕ → ℕ → ℕ
units_before encoding f i byte = code_units encoding (slice_range f.text (line_start f i) byte)

-- the position of a byte: its line, and the code units of the line before it
abbrev pub position_of : PositionEncoding → FileModel → ℕ → Position
position_of encoding f byte =
    let i = line_of f.starts byte in
    record { line = i; character = units_before encoding f i byte }

-- the error of a byte on a line from `start` to `end`: it is past the end, or inside a character
abbrev pub byte_column_failure : List ℕ → ℕ → ℕ → ℕ → Option Error
byte_column_failure text start end byte =
    if nat_lt end byte then Some (ColumnTooLarge (byte - start) (end - start))
    else if is_char_boundary text byte then None
    else Some (InvalidCharBoundary byte)

-- the greatest number of a position
abbrev pub u32_max : ℕ
u32_max = 2 ^ 32 - 1

-- the error of numbers that are too great for a position
abbrev pub overflow_failure : ℕ → ℕ → Option Error
overflow_failure line character =
    if nat_lt u32_max line then Some (LineTooLarge line u32_max)
    else if nat_lt u32_max character then Some (ColumnTooLarge character u32_max)
    else None

-- the error of a byte's position: of a lookup, of the byte, or of the numbers
abbrev pub position_failure : PositionEncoding → FileModel → (Lookup → Option Error) → ℕ
    → Option Error
position_failure encoding f failure byte =
    let i = line_of f.starts byte in
    first_failure (failure Source ∷ failure (LineIndex byte) ∷ failure (LineRange i)
    ∷ byte_column_failure f.text (line_start f i) (line_end f i) byte
    ∷ overflow_failure i (units_before encoding f i byte) ∷ [])

-- a byte is at a position: at a character boundary of its line, after so many code units
pub record IsByteAt (encoding : PositionEncoding) (f : FileModel) (p : Position) (byte : ℕ)
    : Type 0 where
  pub line_exists : p.line < line_count f
  pub from_start : line_start f p.line ≤ byte
  pub to_end : byte ≤ line_end f p.line
  pub boundary : IsCharBoundary f.text byte
  pub units : units_before encoding f p.line byte ≡ p.character

-- the error of a character of a line's text, which starts at the byte `start`: it is past the
-- line's end, which is at `max`, or between the code units of a character, which starts after the
-- prefix
abbrev pub character_failure : PositionEncoding → ℕ → List ℕ → ℕ → Option Error
character_failure encoding start line character =
    let prefix = prefix_within encoding character (chars line) in
    let max = code_units encoding line in
    if nat_lt max character then Some (ColumnTooLarge character max)
    else if total_units encoding prefix == character then None
    else Some (InvalidCharBoundary (start + length (encode_utf8_all prefix)))

-- the error of a position's byte: of a lookup, or of the position
abbrev pub byte_failure : PositionEncoding → FileModel → (Lookup → Option Error) → Position
    → Option Error
byte_failure encoding f failure p =
    first_failure (failure Source ∷ failure (LineRange p.line)
    ∷ character_failure encoding (line_start f p.line) (line_text f p.line) p.character ∷ [])
