-- The texts of statuses and arguments, which are ASCII.
use Rattle.std.specs.Prelude.{ℕ, ◌==◌, if◌then◌else◌, List, ◌++◌, codes}
use Rattle.codespan_native.specs.declared.error.Argument.TheVariants.{Abi, DisplayStyle, Layout}
use Rattle.codespan_native.specs.declared.error.Argument.TheVariants.{Form, ColorMode, Characters}
use Rattle.codespan_native.specs.declared.error.Argument.TheVariants.{SnippetStart, Character}
use Rattle.codespan_native.specs.declared.error.Argument.TheVariants.{Color, ConfigReserved}
use Rattle.codespan_native.specs.declared.error.Argument.TheVariants.{FileName, FileSource}
use Rattle.codespan_native.specs.declared.error.Argument.TheVariants.{FileLines, FileLocations}
use Rattle.codespan_native.specs.declared.error.Argument.TheVariants.{FileReserved, Severity, Code}
use Rattle.codespan_native.specs.declared.error.Argument.TheVariants.{Message, DiagnosticReserved}
use Rattle.codespan_native.specs.declared.error.Argument.TheVariants.{LabelStyle, LabelMessage}
use Rattle.codespan_native.specs.declared.error.Argument.TheVariants.{LabelReserved, Note}
use Rattle.codespan_native.specs.declared.error.EditorArgument.TheVariants.{Encoding, LineTooLarge}
use Rattle.codespan_native.specs.declared.error.EditorArgument.TheVariants.{ColumnTooLarge}
use Rattle.codespan_native.specs.declared.error.EditorArgument.TheVariants.{CharBoundary}
use Rattle.codespan_native.specs.declared.error.EditorArgument.TheVariants.{EditReplacement}
use Rattle.codespan_native.specs.declared.error.EditorArgument.TheVariants.{EditReserved}
use Rattle.codespan_native.specs.declared.error.EditorArgument.TheVariants.{EditReversed}
use Rattle.codespan_native.specs.declared.error.EditorArgument.TheVariants.{EditPastEnd}
use Rattle.codespan_native.specs.declared.error.EditorArgument.TheVariants.{EditBoundary}
use Rattle.codespan_native.specs.declared.error.EditorArgument.TheVariants.{EditOverlap}
use Rattle.codespan_native.specs.EditorArguments.{editor_number}
use Rattle.codespan_native.specs.Statuses.{OK, TOO_SMALL, OUT_OF_MEMORY, FILE_MISSING, INVALID}
use Rattle.codespan_native.specs.Validity.{argument_number}

-- what a status means
abbrev pub status_text : ℕ → List ℕ
status_text s =
    if s == OK then codes "the output was written" else
    if s == TOO_SMALL then codes "the output does not fit into the buffer" else
    if s == OUT_OF_MEMORY then codes "out of memory" else
    if s == FILE_MISSING then codes "the file of a label is not one of the files" else
    codes "unknown status"

-- what an argument must be
abbrev pub argument_text : ℕ → List ℕ
argument_text a =
    if a == argument_number Abi then codes "the ABI version must be that of the library" else
    if a == argument_number DisplayStyle then
    codes "the display style must be one of those of the header" else
    if a == argument_number Layout then codes "the layout must be one of those of the header" else
    if a == argument_number Form then codes "the form must be one of those of the header" else
    if a == argument_number ColorMode then
    codes "the color mode must be one of those of the header" else
    if a == argument_number Characters then
    codes "the choice of characters must be one of those of the header" else
    if a == argument_number SnippetStart then codes "the text before a locus must be UTF-8" else
    if a == argument_number Character then codes "a character must be a Unicode scalar value" else
    if a == argument_number Color then codes "a color must be one of those of the header" else
    if a == argument_number ConfigReserved then
    codes "the reserved words of the configuration must be 0" else
    if a == argument_number FileName then codes "the name of a file must be UTF-8" else
    if a == argument_number FileSource then codes "the source of a file must be UTF-8" else
    if a == argument_number FileLines then
    codes "the lines of a file must start with its source, ascend without overlap and end inside"
    ++ codes " it, at boundaries of characters" else
    if a == argument_number FileLocations then
    codes "the locations of a file must ascend strictly" else
    if a == argument_number FileReserved then codes "the reserved words of a file must be 0" else
    if a == argument_number Severity then
    codes "the severity must be one of those of the header" else
    if a == argument_number Code then codes "the code must be UTF-8" else
    if a == argument_number Message then codes "the message must be UTF-8" else
    if a == argument_number DiagnosticReserved then
    codes "the reserved words of the diagnostic must be 0" else
    if a == argument_number LabelStyle then
    codes "the style of a label must be one of those of the header" else
    if a == argument_number LabelMessage then codes "the message of a label must be UTF-8" else
    if a == argument_number LabelReserved then codes "the reserved words of a label must be 0" else
    if a == argument_number Note then codes "a note must be UTF-8" else
    if a == editor_number Encoding then codes "the encoding must be one of those of the header" else
    if a == editor_number LineTooLarge then
    codes "the line must be one of the source, with an index of 32 bits" else
    if a == editor_number ColumnTooLarge then
    codes "the byte or the character must not be past the end of its line" else
    if a == editor_number CharBoundary then
    codes "the byte or the character must not be inside a character of the source" else
    if a == editor_number EditReplacement then codes "the replacement of an edit must be UTF-8" else
    if a == editor_number EditReserved then codes "the reserved words of an edit must be 0" else
    if a == editor_number EditReversed then codes "an edit must not end before it starts" else
    if a == editor_number EditPastEnd then
    codes "an edit must not end past the end of the source" else
    if a == editor_number EditBoundary then
    codes "an edit must start and end at boundaries of characters" else
    if a == editor_number EditOverlap then codes "edits must not overlap" else
    codes "an argument is invalid"

-- the text for a status: what it means, or, where an argument is invalid, what that must be
abbrev pub text_for : ℕ → ℕ → List ℕ
text_for status argument = if status == INVALID then argument_text argument else status_text status
