-- Texts cut into lines: at newlines, or into the lines that a caller states. A text is a window of
-- a file from a byte on; an index before the window counts as its start.
use Rattle.std.specs.Prelude.{◌≡◌, ℕ, ◌+◌, ◌-◌, ◌^◌, ◌<◌, true, nat_lt}
use Rattle.std.specs.Prelude.{if◌then◌else◌, List, length, slice_get, slice_index, min}
use Rattle.std.specs.Prelude.{nat_eq, Option, Some, None, unwrap_or}
use Rattle.std.specs.Option.{option_map_or}
use Rattle.std.specs.declared.ops.Range.{Range}
use Rattle.codespan_base.specs.declared.files.Error.{Error}
use Rattle.codespan_base.specs.declared.files.Error.TheVariants.{FileMissing, LineTooLarge}
use Rattle.codespan_base.specs.declared.files.Location.{Location}
use Rattle.codespan_base.specs.FileModel.{FileDatabase, FileModel, Lookup, line_of}
use Rattle.codespan_base.specs.FileModel.Lookup.{ColumnNumber, LineRange}
use Rattle.codespan_base.specs.Lines.{column_index_of, line_starts_of}
use Rattle.codespan_base.specs.SimpleModel.{line_ends, missing_file}
use Rattle.codespan_native.specs.declared.raw.RawLine.{RawLine}
use Rattle.codespan_native.specs.StatedLines.{ends_of, numbers_of, starts_of}

-- ---- texts

-- a text cut into lines, with their numbers
pub record SourceTextView : Type 0 where
  pub name : List ℕ
  pub source : List ℕ
  pub starts : List ℕ
  pub ends : List ℕ
  pub number : ℕ → ℕ

-- a text whose lines start after newlines, and whose line numbers count on from the lines before
-- it, up to the greatest usize
abbrev pub newline_text : List ℕ → List ℕ → ℕ → SourceTextView
newline_text name source first_line = record {
  name = name;
  source = source;
  starts = line_starts_of source;
  ends = line_ends source;
  number = λ i. min (first_line + i + 1) (2 ^ 64 - 1);
}

-- a text of stated lines
abbrev pub stated_text : List ℕ → List ℕ → ℕ → List RawLine → SourceTextView
stated_text name source first_byte lines = record {
  name = name;
  source = source;
  starts = starts_of first_byte lines;
  ends = ends_of first_byte lines;
  number = λ i. slice_index (numbers_of lines) i;
}

-- ---- files

-- the column number of a byte on a line, in characters from 1
abbrev pub source_column : SourceTextView → ℕ → ℕ → ℕ
source_column t i byte =
    column_index_of t.source (slice_index t.starts i) (slice_index t.ends i) byte + 1

-- the location of a byte, as it is computed
abbrev pub source_location : SourceTextView → ℕ → Location
source_location t byte =
    let i = line_of t.starts byte in
    record { line_number = t.number i; column_number = source_column t i byte }

-- a text with the locations that are stated for some of its bytes
pub record NativeFileView : Type 0 where
  pub text : SourceTextView
  pub stated_location : ℕ → Option Location

-- the file that has it; a location that is stated is used in place of the computed one
abbrev pub native_file_model : NativeFileView → FileModel
native_file_model view = record {
  exists = true;
  name = Some view.text.name;
  text = view.text.source;
  starts = view.text.starts;
  ends = view.text.ends;
  line_number = view.text.number;
  column_number = source_column view.text;
  location = λ byte. unwrap_or (view.stated_location byte) (source_location view.text byte);
}

-- the range of line i
pub record IsSourceLineRange (t : SourceTextView) (i : ℕ) (r : Range ℕ) : Type 0 where
  pub inside : i < length t.starts
  pub start_is : r.start ≡ slice_index t.starts i
  pub end_is : r.end ≡ slice_index t.ends i

-- the error of the lookup of line i: it is past the last one
abbrev pub source_line_failure : List ℕ → ℕ → Option Error
source_line_failure starts i =
    if nat_lt i (length starts) then None else Some (LineTooLarge i (length starts - 1))

-- the error of a lookup: only that of a range or a column of a line past the last one
abbrev pub native_failure : NativeFileView → Lookup → Option Error
native_failure view (LineRange i) = source_line_failure view.text.starts i
native_failure view (ColumnNumber i byte) = source_line_failure view.text.starts i
native_failure view _ = None

-- the files, by their indices
abbrev pub native_database : List NativeFileView → FileDatabase ℕ
native_database views = record {
  same = nat_eq;
  file = λ id. option_map_or native_file_model (slice_get views id) missing_file;
  failure = λ id lookup.
      option_map_or (λ view. native_failure view lookup) (slice_get views id) (Some FileMissing);
}
