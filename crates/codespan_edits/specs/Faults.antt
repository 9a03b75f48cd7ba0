-- What is wrong with a list of edits.
use Rattle.std.specs.Prelude.{◌≡◌, ◌≢◌, ℕ, nat_lt, not, if◌then◌else◌, List, []}
use Rattle.std.specs.Prelude.{◌∷◌, length, Option, Some, None, Result, MatchResult}
use Rattle.std.specs.Option.{option_or}
use Rattle.codespan_core.specs.Lines.{is_char_boundary}
use Rattle.codespan_edits.specs.Edits.{TextEdit, ListedEdit, listed, in_order}
use Rattle.codespan_edits.specs.declared.error.EditError.{EditError}
use Rattle.codespan_edits.specs.declared.error.EditError.TheVariants.{Reversed, PastEnd}
use Rattle.codespan_edits.specs.declared.error.EditError.TheVariants.{NotCharBoundary, Overlap}
use Rattle.codespan_edits.specs.declared.error.EditError.TheVariants.{OutOfMemory}

-- the fault that an edit of a text has by itself: its range is reversed, it ends past the text, or
-- its start or its end is inside a character
abbrev pub own_fault : List ℕ → ListedEdit → Option EditError
own_fault text x =
    if nat_lt x.edit.end x.edit.start then Some (Reversed x.index)
    else if nat_lt (length text) x.edit.end then Some (PastEnd x.index (length text))
    else if not (is_char_boundary text x.edit.start)
    then Some (NotCharBoundary x.index x.edit.start)
    else if not (is_char_boundary text x.edit.end) then Some (NotCharBoundary x.index x.edit.end)
    else None

-- the fault of the first edit that has one by itself
abbrev pub first_own_fault : List ℕ → List ListedEdit → Option EditError
first_own_fault text [] = None
first_own_fault text (x ∷ xs) = option_or (own_fault text x) (first_own_fault text xs)

-- the fault of the first two neighbors, among edits in order, of which one ends past the start of
-- the next
abbrev pub neighbor_fault : List ListedEdit → Option EditError
neighbor_fault [] = None
neighbor_fault (x ∷ []) = None
neighbor_fault (x ∷ (y ∷ ys)) =
    if nat_lt y.edit.start x.edit.end then Some (Overlap y.index x.index)
    else neighbor_fault (y ∷ ys)

-- what is wrong with a list of edits of a text
abbrev pub fault : List ℕ → List TextEdit → Option EditError
fault text edits =
    option_or (first_own_fault text (listed edits)) (neighbor_fault (in_order (listed edits)))

-- where the call succeeds there is no such error, and where it fails it returns this error or
-- `OutOfMemory`
abbrev pub FailsBy : {T : Type 0} → Option EditError → Result T EditError → Type 0
FailsBy o r = MatchResult r (λ _. o ≡ None) (λ e. e ≢ OutOfMemory → o ≡ Some e)
