-- The arguments of the calls for editors that can be invalid, and the details that name them.
use Rattle.std.specs.Prelude.{ℕ, Option, Some, None}
use Rattle.codespan_base.specs.declared.files.Error.{Error}
use Rattle.codespan_base.specs.declared.files.Error.TheVariants.{LineTooLarge, ColumnTooLarge}
use Rattle.codespan_base.specs.declared.files.Error.TheVariants.{InvalidCharBoundary}
use Rattle.codespan_edits.specs.declared.error.EditError.{EditError}
use Rattle.codespan_edits.specs.declared.error.EditError.TheVariants.{Reversed, PastEnd}
use Rattle.codespan_edits.specs.declared.error.EditError.TheVariants.{NotCharBoundary, Overlap}
use Rattle.codespan_edits.specs.declared.error.EditError.TheVariants.{OutOfMemory}
use Rattle.codespan_native.specs.declared.error.Argument.{Argument}
use Rattle.codespan_native.specs.declared.error.EditorArgument.{EditorArgument}
use Rattle.codespan_native.specs.declared.error.EditorArgument.TheVariants as editor
use Rattle.codespan_native.specs.declared.raw.Detail.{Detail}
use Rattle.codespan_native.specs.Validity.{argument_number}

-- the number of an argument in the header for editors
abbrev pub editor_number : EditorArgument → ℕ
editor_number editor.Encoding = 25
editor_number editor.LineTooLarge = 26
editor_number editor.ColumnTooLarge = 27
editor_number editor.CharBoundary = 28
editor_number editor.EditReplacement = 29
editor_number editor.EditReserved = 30
editor_number editor.EditReversed = 31
editor_number editor.EditPastEnd = 32
editor_number editor.EditBoundary = 33
editor_number editor.EditOverlap = 34

-- the detail of a number and an index
abbrev pub detail_of : ℕ → ℕ → Detail
detail_of number i = record { argument = number; index = i }

-- the detail of an argument of which there is one
abbrev pub argument_detail : Argument → Detail
argument_detail a = detail_of (argument_number a) 0

-- the detail of an argument of a call for editors
abbrev pub editor_detail : EditorArgument → ℕ → Detail
editor_detail a i = detail_of (editor_number a) i

-- the detail of a byte without a position, or of a position without a byte: of a column past the
-- end of its line, with that end
abbrev pub error_detail : Error → Option Detail
error_detail (LineTooLarge given max) = Some (editor_detail editor.LineTooLarge 0)
error_detail (ColumnTooLarge given max) = Some (editor_detail editor.ColumnTooLarge max)
error_detail (InvalidCharBoundary given) = Some (editor_detail editor.CharBoundary 0)
error_detail _ = None

-- the detail of what is wrong with a list of edits: of an overlap, the later edit of the two
abbrev pub fault_detail : EditError → Option Detail
fault_detail (Reversed edit) = Some (editor_detail editor.EditReversed edit)
fault_detail (PastEnd edit len) = Some (editor_detail editor.EditPastEnd edit)
fault_detail (NotCharBoundary edit byte) = Some (editor_detail editor.EditBoundary edit)
fault_detail (Overlap edit other) = Some (editor_detail editor.EditOverlap edit)
fault_detail OutOfMemory = None
