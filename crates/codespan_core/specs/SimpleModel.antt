-- A text as a file, and a database of such files: a line starts after each newline, and ends where
-- the next one starts.
use Rattle.std.specs.Prelude.{ℕ, ◌+◌, ◌-◌, nat_lt, true, false, if◌then◌else◌, List}
use Rattle.std.specs.Prelude.{[], ◌∷◌, ◌++◌, length, drop, slice_get, Option, Some, None}
use Rattle.std.specs.Option.{option_map_or}
use Rattle.codespan_core.specs.declared.files.error.Error.{Error}
use Rattle.codespan_core.specs.declared.files.error.Error.TheVariants.{LineTooLarge, FileMissing}
use Rattle.codespan_core.specs.declared.files.Location.{Location}
use Rattle.codespan_core.specs.FileModel.{FileModel, Lookup, line_of}
use Rattle.codespan_core.specs.LawfulFiles.{line_number_failure}
use Rattle.codespan_core.specs.FileModel.Lookup.{LineNumber, ColumnNumber, LineRange}
use Rattle.codespan_core.specs.Lines.{line_starts_of, column_number_of}

-- a line ends where the next one starts, the last one with the text
abbrev pub line_ends : List ℕ → List ℕ
line_ends text = drop 1 (line_starts_of text) ++ length text ∷ []

-- the column number of a byte on line i
abbrev pub simple_column_number : List ℕ → ℕ → ℕ → ℕ
simple_column_number text = column_number_of text (line_starts_of text) (line_ends text)

-- the number of a byte's line, and its column number there
abbrev pub simple_location : List ℕ → ℕ → Location
simple_location text byte =
    let i = line_of (line_starts_of text) byte in
    record { line_number = i + 1; column_number = simple_column_number text i byte }

-- the file of a name and a text
abbrev pub simple_file : Option (List ℕ) → List ℕ → FileModel
simple_file name text = record {
  exists = true;
  name = name;
  text = text;
  starts = line_starts_of text;
  ends = line_ends text;
  line_number = λ i. i + 1;
  column_number = simple_column_number text;
  location = simple_location text;
}

-- what the lookup of the range of line i, or of a column on it, fails with: `LineTooLarge`, where
-- the line is past the last
abbrev pub past_last_line_failure : List ℕ → ℕ → Option Error
past_last_line_failure text i =
    if nat_lt i (length (line_starts_of text)) then None
    else Some (LineTooLarge i (length (line_starts_of text) - 1))

-- what a lookup fails with
abbrev pub simple_failure : List ℕ → Lookup → Option Error
simple_failure text (LineNumber i) = line_number_failure i
simple_failure text (ColumnNumber i byte) = past_last_line_failure text i
simple_failure text (LineRange i) = past_last_line_failure text i
simple_failure text _ = None

-- the file of an id that names none
abbrev pub missing_file : FileModel
missing_file = record {
  exists = false;
  name = Some [];
  text = [];
  starts = 0 ∷ [];
  ends = 0 ∷ [];
  line_number = λ i. i + 1;
  column_number = λ i byte. 1;
  location = λ byte. record { line_number = 1; column_number = 1 };
}

-- what a lookup of such an id fails with: `FileMissing`, unless it is that of a line's number
abbrev pub missing_failure : Lookup → Option Error
missing_failure (LineNumber i) = line_number_failure i
missing_failure _ = Some FileMissing

-- the file of an id, in a database of names and sources, where `displayed` is what names display
abbrev pub database_file : {Name Source : Type 0} → (Name → Option (List ℕ))
    → (Source → List ℕ)
    → List (Name × Source) → ℕ → FileModel
database_file displayed text entries id =
    option_map_or (λ entry. simple_file (displayed entry.0) (text entry.1))
    (slice_get entries id) missing_file

-- what a lookup of an id fails with, in a database of names and sources
abbrev pub database_failure : {Name Source : Type 0} → (Source → List ℕ)
    → List (Name × Source) → ℕ
    → Lookup → Option Error
database_failure text entries id lookup =
    option_map_or (λ entry. simple_failure (text entry.1) lookup) (slice_get entries id)
    (missing_failure lookup)
