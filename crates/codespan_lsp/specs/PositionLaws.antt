-- What positions and bytes are to each other.
use Rattle.std.specs.Prelude.{◌≡◌, ◌↔◌, ◌⊎◌, ℕ, ◌+◌, ◌<◌, ◌≤◌}
use Rattle.std.specs.Prelude.{List, ◌++◌, encode_utf8, slice_range, Option, Some, None}
use Rattle.std.specs.Str.{IsCharBoundary}
use Rattle.std.specs.declared.ops.Range as ops
use Rattle.codespan_base.specs.FileModel.{FileModel, Lookup, line_count, line_of, line_start}
use Rattle.codespan_base.specs.FileModel.{line_text}
use Rattle.codespan_base.specs.LawfulFiles.{IsLawful, line_end}
use Rattle.codespan_base.specs.declared.files.Error.{Error}
use Rattle.codespan_base.specs.declared.files.Error.TheVariants.{InvalidCharBoundary}
use Rattle.codespan_lsp.specs.Units.{char_units}
use Rattle.codespan_lsp.specs.Positions.{units_before, position_of, IsByteAt, character_failure}
use Rattle.codespan_lsp.specs.Ranges.{ordered_span, range_of, range_failure}
use Rattle.codespan_lsp.specs.declared.encoding.PositionEncoding.{PositionEncoding}
use Rattle.codespan_lsp.specs.declared.positions.Position.{Position}
use Rattle.codespan_lsp.specs.declared.spans.Range.{Range}

-- a byte at which a position may be: a character boundary that is not past its line's end
pub record IsOnLine (f : FileModel) (byte : ℕ) : Type 0 where
  pub to_end : byte ≤ line_end f (line_of f.starts byte)
  pub boundary : IsCharBoundary f.text byte

-- a byte is at its position, and no other byte is
pub record RoundTrip (encoding : PositionEncoding) (f : FileModel) (byte : ℕ) : Type 0 where
  pub is_at : IsByteAt encoding f (position_of encoding f byte) byte
  pub unique : (other : ℕ) → IsByteAt encoding f (position_of encoding f byte) other
      → other ≡ byte

-- each byte on a line goes to a position and back to itself
abbrev pub PositionsReturn : Type 0
PositionsReturn = (encoding : PositionEncoding) (f : FileModel) (byte : ℕ)
    → IsLawful f → IsOnLine f byte → RoundTrip encoding f byte

-- a position is before another one: on an earlier line, or at a smaller character of its line
abbrev pub IsEarlierPosition : Position → Position → Type 0
IsEarlierPosition p q = (p.line < q.line) ⊎ ((p.line ≡ q.line) × (p.character < q.character))

-- of two bytes on lines the later one has the later position
abbrev pub PositionsAscend : Type 0
PositionsAscend = (encoding : PositionEncoding) (f : FileModel) (a b : ℕ)
    → IsLawful f → IsOnLine f a → IsOnLine f b → a < b
    → IsEarlierPosition (position_of encoding f a) (position_of encoding f b)

-- a range whose start is its end or an earlier position
abbrev pub IsOrderedRange : Range → Type 0
IsOrderedRange range = (range.start ≡ range.end) ⊎ IsEarlierPosition range.start range.end

-- each range that is returned for the span of a label is ordered
abbrev pub LabelRangesAreOrdered : Type 0
LabelRangesAreOrdered = (encoding : PositionEncoding) (f : FileModel)
    (failure : Lookup → Option Error) (span : ops.Range ℕ)
    → IsLawful f → range_failure encoding f failure (ordered_span span) ≡ None
    → IsOrderedRange (range_of encoding f (ordered_span span))

-- a position of a line is no error exactly where a byte is at it
abbrev pub ErrorsHaveNoByte : Type 0
ErrorsHaveNoByte = (encoding : PositionEncoding) (f : FileModel) (p : Position)
    → IsLawful f → p.line < line_count f
    → (character_failure encoding (line_start f p.line) (line_text f p.line) p.character ≡ None)
    ↔ ((byte : ℕ) × IsByteAt encoding f p byte)

-- a position is between the code units of the character c that starts at a byte of its line
pub record IsInside (encoding : PositionEncoding) (f : FileModel) (p : Position) (byte c : ℕ)
    : Type 0 where
  pub line_exists : p.line < line_count f
  pub from_start : line_start f p.line ≤ byte
  pub boundary : IsCharBoundary f.text byte
  pub to_end : byte ≤ line_end f p.line
  pub starts : (rest : List ℕ)
      × (slice_range f.text byte (line_end f p.line) ≡ encode_utf8 c ++ rest)
  pub after : units_before encoding f p.line byte < p.character
  pub before : p.character < units_before encoding f p.line byte + char_units encoding c

-- there the error has the character's byte
abbrev pub InsideIsNoBoundary : Type 0
InsideIsNoBoundary = (encoding : PositionEncoding) (f : FileModel) (p : Position) (byte c : ℕ)
    → IsLawful f → IsInside encoding f p byte c
    → character_failure encoding (line_start f p.line) (line_text f p.line) p.character
    ≡ Some (InvalidCharBoundary byte)
