-- What the rows of an output are to the texts of its files.
use Rattle.std.specs.Prelude.{◌≡◌, List, [], ◌∷◌, flat_map, Some, None}
use Rattle.codespan_core.specs.FileModel.{FileModel}
use Rattle.codespan_edits.specs.Edits.{TextEdit, edited}
use Rattle.codespan_edits.specs.Faults.{fault}
use Rattle.codespan_edits.specs.Diffs.{lines}
use Rattle.codespan_edits.specs.Numbers.{NumberedRow}
use Rattle.codespan_edits.specs.Patches.{patched}
use Rattle.codespan_edits.specs.DrawnRows.{Context}
use Rattle.codespan_suggestions.specs.DrawnFiles.{drawn}
use Rattle.codespan_suggestions.specs.SuggestionRows.{Row, file_rows}
use Rattle.codespan_suggestions.specs.SuggestionRows.Row.{LineRow}

-- the row of a diff that a row of an output shows, if it shows one
abbrev pub row_shown : Row → List NumberedRow
row_shown (LineRow r) = r ∷ []
row_shown _ = []

-- the rows of a diff that the rows of an output show
abbrev pub rows_shown : List Row → List NumberedRow
rows_shown rows = flat_map row_shown rows

-- whatever the context, what the rows of a file show in rich style is a patch that makes the lines
-- of its text after the edits of those of its text
abbrev pub ShownIsMade : Type 0
ShownIsMade = (context : Context) (file : FileModel) (edits : List TextEdit)
    → fault file.text edits ≡ None
    → patched (lines file.text) (rows_shown (file_rows (drawn context file edits)))
    ≡ Some (lines (edited file.text edits))
