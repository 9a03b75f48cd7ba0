-- Lines and locations that a caller states, in a window of a file from the byte `first_byte` on; an
-- index before the window counts as its start.
use Rattle.std.specs.Prelude.{ℕ, ◌-◌, Bool, true, false, ◌&&◌, ◌==◌, nat_lt, nat_le}
use Rattle.std.specs.Prelude.{if◌then◌else◌, List, [], ◌∷◌, map, Option, Some, None}
use Rattle.codespan_base.specs.declared.files.Location.{Location}
use Rattle.codespan_base.specs.Lines.{is_char_boundary}
use Rattle.codespan_native.specs.declared.raw.RawLine.{RawLine}
use Rattle.codespan_native.specs.declared.raw.RawLocation.{RawLocation}

-- whether lines follow one that has this start and this end: each starts after the start of the one
-- before it, and not before its end
abbrev pub are_next_lines : List ℕ → ℕ → ℕ → ℕ → List RawLine → Bool
are_next_lines text first_byte start end [] = true
are_next_lines text first_byte start end (l ∷ ls) =
    nat_lt start (l.start - first_byte)
    && (nat_le end (l.start - first_byte)
    && (nat_le (l.start - first_byte) (l.end - first_byte)
    && (is_char_boundary text (l.start - first_byte)
    && (is_char_boundary text (l.end - first_byte)
    && are_next_lines text first_byte (l.start - first_byte) (l.end - first_byte) ls))))

-- whether the text is cut into these lines
abbrev pub are_lines : List ℕ → ℕ → List RawLine → Bool
are_lines text first_byte [] = false
are_lines text first_byte (l ∷ ls) =
    (l.start - first_byte) == 0
    && (is_char_boundary text (l.end - first_byte)
    && are_next_lines text first_byte (l.start - first_byte) (l.end - first_byte) ls)

-- where the lines start, where they end, and their numbers
abbrev pub starts_of : ℕ → List RawLine → List ℕ
starts_of first_byte lines = map (λ l. l.start - first_byte) lines

abbrev pub ends_of : ℕ → List RawLine → List ℕ
ends_of first_byte lines = map (λ l. l.end - first_byte) lines

abbrev pub numbers_of : List RawLine → List ℕ
numbers_of lines = map (λ l. l.number) lines

-- the location that is stated for a byte
abbrev pub location_at : ℕ → List RawLocation → ℕ → Option Location
location_at first_byte [] byte = None
location_at first_byte (l ∷ ls) byte =
    if (l.byte - first_byte) == byte
    then Some (record { line_number = l.line_number; column_number = l.column_number })
    else location_at first_byte ls byte

-- whether the bytes of locations ascend strictly from this one on
abbrev pub bytes_ascend_from : ℕ → ℕ → List RawLocation → Bool
bytes_ascend_from first_byte byte [] = true
bytes_ascend_from first_byte byte (l ∷ ls) =
    nat_lt byte (l.byte - first_byte) && bytes_ascend_from first_byte (l.byte - first_byte) ls

-- whether the bytes of locations ascend strictly
abbrev pub locations_ascend : ℕ → List RawLocation → Bool
locations_ascend first_byte [] = true
locations_ascend first_byte (l ∷ ls) = bytes_ascend_from first_byte (l.byte - first_byte) ls
