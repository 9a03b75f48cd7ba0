-- What an error displays.
use Rattle.std.specs.Prelude.{ℕ, List, ◌++◌, Option, Some, None, codes}
use Rattle.std.specs.Fmt.{decimal}
use Rattle.codespan_core.specs.declared.files.error.Error.{Error}
use Rattle.codespan_core.specs.declared.files.error.Error.TheVariants.{FileMissing, IndexTooLarge}
use Rattle.codespan_core.specs.declared.files.error.Error.TheVariants.{LineTooLarge, ColumnTooLarge}
use Rattle.codespan_core.specs.declared.files.error.Error.TheVariants.{InvalidCharBoundary, Io}
use Rattle.codespan_core.specs.declared.files.error.Error.TheVariants.{FormatError, OutOfMemory}

-- the text of an error; that of `Io` is its inner error's, and nothing is stated of it
abbrev pub error_text : Error → Option (List ℕ)
error_text FileMissing = Some (codes "file missing")
error_text (IndexTooLarge given max) =
    Some (codes "invalid index " ++ (decimal given ++ (codes ", maximum index is " ++ decimal max)))
error_text (LineTooLarge given max) =
    Some (codes "invalid line " ++ (decimal given ++ (codes ", maximum line is " ++ decimal max)))
error_text (ColumnTooLarge given max) =
    Some (codes "invalid column " ++ (decimal given ++ (codes ", maximum column " ++ decimal max)))
error_text (InvalidCharBoundary given) = Some (codes "index is not a code point boundary")
error_text (Io cause) = None
error_text FormatError = Some (codes "formatting error")
error_text OutOfMemory = Some (codes "out of memory")
