-- A file as its lookups show it: a name, a text, and the text cut into lines.
use Rattle.std.specs.Prelude.{ℕ, ◌-◌, Bool, List, [], length, slice_index, slice_range}
use Rattle.std.specs.Prelude.{count_by, nat_le, Option, unwrap_or}
use Rattle.codespan_core.specs.declared.files.error.Error.{Error}
use Rattle.codespan_core.specs.declared.files.Location.{Location}
use Rattle.std.specs.Option.{option_or}

-- a file; line i runs from its start to its end, and has a number
pub record FileModel : Type 0 where
  -- whether its id names a file
  pub exists : Bool
  -- the text that the name's Display states, if it states one
  pub name : Option (List ℕ)
  -- its bytes
  pub text : List ℕ
  -- where each line starts, in bytes
  pub starts : List ℕ
  -- where each line ends, in bytes, exclusive
  pub ends : List ℕ
  -- the number of the line of an index from 0, as users see it
  pub line_number : ℕ → ℕ
  -- the column number, as users see it, by a line index and a byte index, both from 0
  pub column_number : ℕ → ℕ → ℕ
  -- the location of a byte index from 0
  pub location : ℕ → Location

-- what is looked up in a file: `LineIndex` and `LocationAt` by a byte index, `LineNumber` and
-- `LineRange` by a line index, `ColumnNumber` by a line index and a byte index
pub data Lookup : Type 0 where
  Name : Lookup
  Source : Lookup
  LineIndex : ℕ → Lookup
  LineNumber : ℕ → Lookup
  ColumnNumber : ℕ → ℕ → Lookup
  LocationAt : ℕ → Lookup
  LineRange : ℕ → Lookup

-- a file database: which ids are equal, the file of an id, and what a lookup of it fails with
pub record FileDatabase (Id : Type 0) : Type 0 where
  -- whether two ids are equal
  pub same : Id → Id → Bool
  -- the file that an id names
  pub file : Id → FileModel
  -- the error that a lookup of it fails with, if any, `OutOfMemory` aside
  pub failure : Id → Lookup → Option Error

-- the number of lines of a file
abbrev pub line_count : FileModel → ℕ
line_count f = length f.starts

-- the index of the last start that is not after the byte
unfoldable pub line_of : List ℕ → ℕ → ℕ
line_of starts byte = count_by (λ s. nat_le s byte) starts - 1

-- the first of two errors, or the second where there is no first
abbrev pub or_failure : Option Error → Option Error → Option Error
or_failure first second = option_or first second

-- the first byte of line i
abbrev pub line_start : FileModel → ℕ → ℕ
line_start f i = slice_index f.starts i

-- the text that a file's name states, and nothing where it states none
abbrev pub name_text : FileModel → List ℕ
name_text f = unwrap_or f.name []

-- the text of line i
abbrev pub line_text : FileModel → ℕ → List ℕ
line_text f i = slice_range f.text (slice_index f.starts i) (slice_index f.ends i)
