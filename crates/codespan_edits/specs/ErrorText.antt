-- What an error displays.
use Rattle.std.specs.Prelude.{ℕ, List, ◌++◌, codes}
use Rattle.std.specs.Fmt.{decimal}
use Rattle.codespan_edits.specs.declared.error.EditError.{EditError}
use Rattle.codespan_edits.specs.declared.error.EditError.TheVariants.{Reversed, PastEnd}
use Rattle.codespan_edits.specs.declared.error.EditError.TheVariants.{NotCharBoundary, Overlap}
use Rattle.codespan_edits.specs.declared.error.EditError.TheVariants.{OutOfMemory}

-- the text of an error
abbrev pub error_text : EditError → List ℕ
error_text (Reversed edit) = codes "edit " ++ (decimal edit ++ codes " ends before it starts")
error_text (PastEnd edit len) =
    codes "edit " ++ (decimal edit
    ++ (codes " ends past byte " ++ (decimal len ++ codes ", the end of the source")))
error_text (NotCharBoundary edit byte) =
    codes "edit " ++ (decimal edit
    ++ (codes ": byte " ++ (decimal byte ++ codes " is not a character boundary")))
error_text (Overlap edit other) =
    codes "edit " ++ (decimal edit ++ (codes " overlaps edit " ++ decimal other))
error_text OutOfMemory = codes "out of memory"
