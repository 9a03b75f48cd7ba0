-- Lines and columns of bytes, as compilers and editors number them.
use Rattle.std.specs.Prelude.{ℕ, ◌+◌, ◌-◌, List, slice_index}
use Rattle.codespan_core.specs.FileModel.{line_of}
use Rattle.codespan_core.specs.Lines.{line_starts_of}

module _ (text : List ℕ) (byte : ℕ) where
  -- the number of a byte's line, from 1
  abbrev pub line_number : ℕ
  line_number = line_of (line_starts_of text) byte + 1

  -- the number of its column, in bytes from 1
  abbrev pub byte_column : ℕ
  byte_column =
      byte - slice_index (line_starts_of text) (line_of (line_starts_of text) byte) + 1
