-- A text as a file whose line numbers can be set, as `#line` does in C. A line ends before its
-- newline.
use Rattle.std.specs.Prelude.{ℕ, ◌+◌, ◌-◌, ◌^◌, nat_le, nat_lt, ◌==◌}
use Rattle.std.specs.Prelude.{if◌then◌else◌, List, [], ◌∷◌, ◌++◌, length, map}
use Rattle.std.specs.Prelude.{Option, Some, None}
use Rattle.codespan_core.specs.declared.files.error.Error.{Error}
use Rattle.codespan_core.specs.declared.files.error.Error.TheVariants.{LineTooLarge}
use Rattle.codespan_core.specs.declared.files.Location.{Location}
use Rattle.codespan_core.specs.FileModel.{FileModel, Lookup, line_of}
use Rattle.codespan_core.specs.LawfulFiles.{line_number_failure}
use Rattle.codespan_core.specs.FileModel.Lookup.{LineNumber, ColumnNumber, LocationAt, LineRange}
use Rattle.codespan_core.specs.Lines.{line_starts_of, starts_after, column_number_of}
use Rattle.codespan_core.specs.SimpleModel.{simple_file, past_last_line_failure}

-- the ends of the lines, before their newlines
abbrev pub mapped_ends : List ℕ → List ℕ
mapped_ends text = map (λ s. s - 1) (starts_after 0 text) ++ length text ∷ []

-- the pair of a line index and its set number that line i counts from: the nearest at the line or
-- above it, in a list whose line indices ascend
abbrev pub nearest_set : List (ℕ × ℕ) → ℕ → Option (ℕ × ℕ)
nearest_set [] i = None
nearest_set (s ∷ ss) i = nearer (nearest_set ss i) (if nat_le s.0 i then Some s else None)
  where
    nearer : Option (ℕ × ℕ) → Option (ℕ × ℕ) → Option (ℕ × ℕ)
    nearer (Some later) earlier = Some later
    nearer None earlier = earlier

-- the set numbers with one more, which replaces an earlier one of the same line index
abbrev pub with_set_number : ℕ → ℕ → List (ℕ × ℕ) → List (ℕ × ℕ)
with_set_number i number [] = (i, number) ∷ []
with_set_number i number (s ∷ ss) =
    if s.0 == i then (i, number) ∷ ss
    else if nat_lt i s.0 then (i, number) ∷ s ∷ ss
    else s ∷ with_set_number i number ss

-- the number of line i, from the set number that it counts from
abbrev pub number_from : Option (ℕ × ℕ) → ℕ → ℕ
number_from None i = i + 1
number_from (Some s) i = s.1 + (i - s.0)

-- what the lookup of the number of line i fails with, from the set number that it counts from:
-- `LineTooLarge`, where the number is past the greatest `usize`; its second field is the greatest
-- line index that counts from the same set number and whose number is not
abbrev pub number_failure : Option (ℕ × ℕ) → ℕ → Option Error
number_failure None i = line_number_failure i
number_failure (Some s) i =
    if nat_lt (s.1 + (i - s.0)) (2 ^ 64) then None
    else Some (LineTooLarge i (s.0 + (2 ^ 64 - 1 - s.1)))

-- the column number of a byte on a line
abbrev pub mapped_column_number : List ℕ → ℕ → ℕ → ℕ
mapped_column_number text = column_number_of text (line_starts_of text) (mapped_ends text)

-- the number of the byte's line, and its column number there
abbrev pub mapped_location : List ℕ → List (ℕ × ℕ) → ℕ → Location
mapped_location text set_numbers byte =
    let i = line_of (line_starts_of text) byte in
    record {
      line_number = number_from (nearest_set set_numbers i) i;
      column_number = mapped_column_number text i byte;
    }

-- the file of a name, a text and set numbers
abbrev pub mapped_file : Option (List ℕ) → List ℕ → List (ℕ × ℕ) → FileModel
mapped_file name text set_numbers = record (simple_file name text) {
  ends = mapped_ends text;
  line_number = λ i. number_from (nearest_set set_numbers i) i;
  column_number = mapped_column_number text;
  location = mapped_location text set_numbers;
}

-- what a lookup fails with
abbrev pub mapped_failure : List ℕ → List (ℕ × ℕ) → Lookup → Option Error
mapped_failure text set_numbers (LineNumber i) = number_failure (nearest_set set_numbers i) i
mapped_failure text set_numbers (ColumnNumber i byte) = past_last_line_failure text i
mapped_failure text set_numbers (LineRange i) = past_last_line_failure text i
mapped_failure text set_numbers (LocationAt byte) =
    let i = line_of (line_starts_of text) byte in number_failure (nearest_set set_numbers i) i
mapped_failure text set_numbers _ = None
