-- What the call for C does that applies edits to a text.
use Rattle.std.specs.Prelude.{◌≡◌, ◌≤◌, ◌⊎◌, ℕ, List, All, map, Some, None}
use Rattle.std.specs.Str.{IsUtf8}
use Rattle.codespan_edits.specs.Edits.{TextEdit, edited}
use Rattle.codespan_edits.specs.Faults.{fault}
use Rattle.codespan_edits.specs.declared.error.EditError.{EditError}
use Rattle.codespan_native.specs.declared.error.Argument.TheVariants.{FileSource}
use Rattle.codespan_native.specs.declared.error.EditorArgument.TheVariants.{EditReplacement}
use Rattle.codespan_native.specs.declared.error.EditorArgument.TheVariants.{EditReserved}
use Rattle.codespan_native.specs.declared.raw.Detail.{Detail}
use Rattle.codespan_native.specs.declared.raw.RawEdit.{RawEdit}
use Rattle.codespan_native.specs.EditorArguments.{argument_detail, editor_detail}
use Rattle.codespan_native.specs.EditorArguments.{fault_detail}
use Rattle.codespan_native.specs.Results.{IsTooSmall, IsUnchanged, IsWritten}
use Rattle.codespan_native.specs.Statuses.{OK, TOO_SMALL, OUT_OF_MEMORY, INVALID}
use Rattle.codespan_native.specs.Validity.{AreZero, IsFirstWithout, no_detail}

-- the edit of a text that a struct of C is
abbrev pub raw_text_edit : RawEdit → TextEdit
raw_text_edit e = record { start = e.start; end = e.end; replacement = e.replacement.now }

-- the edits of a text that structs of C are
abbrev pub raw_text_edits : List RawEdit → List TextEdit
raw_text_edits = map raw_text_edit

-- the replacement of an edit is UTF-8
abbrev pub HasValidReplacement : RawEdit → Type 0
HasValidReplacement e = IsUtf8 e.replacement.now

-- the reserved words of an edit are 0
abbrev pub HasZeroEditWords : RawEdit → Type 0
HasZeroEditWords e = AreZero e.reserved

-- valid texts and reserved words
pub record AreReadable (source : List ℕ) (edits : List RawEdit) : Type 0 where
  pub source_text : IsUtf8 source
  pub replacements : All HasValidReplacement edits
  pub reserved : All HasZeroEditWords edits

-- the detail names the first of them that is invalid
abbrev pub NamesUnreadable : List ℕ → List RawEdit → Detail → Type 0
NamesUnreadable source edits detail =
    ((¬ IsUtf8 source) × (detail ≡ argument_detail FileSource))
    ⊎ ((IsUtf8 source
    × ((i : ℕ) × IsFirstWithout HasValidReplacement edits i
    × (detail ≡ editor_detail EditReplacement i)))
    ⊎ (IsUtf8 source × All HasValidReplacement edits
    × ((i : ℕ) × IsFirstWithout HasZeroEditWords edits i
    × (detail ≡ editor_detail EditReserved i))))

-- they are valid, and the detail names what is wrong with the ranges of the edits
abbrev pub NamesFault : List ℕ → List RawEdit → Detail → Type 0
NamesFault source edits detail =
    AreReadable source edits
    × ((e : EditError) × (fault source (raw_text_edits edits) ≡ Some e)
    × (fault_detail e ≡ Some detail))

-- the call returns this status, length and detail, and leaves `new` in `out`, which was `old`
pub record AppliesEdits (source : List ℕ) (edits : List RawEdit) (old new : List ℕ)
    (status written : ℕ) (detail : Detail) : Type 0 where
  pub ok : status ≡ OK → IsWritten (edited source (raw_text_edits edits)) old new written
  pub too_small : status ≡ TOO_SMALL
      → IsTooSmall (edited source (raw_text_edits edits)) old new written
  pub unchanged : OUT_OF_MEMORY ≤ status → IsUnchanged old new written
  pub readable : status ≤ OUT_OF_MEMORY → AreReadable source edits
  pub fits : status ≤ TOO_SMALL → fault source (raw_text_edits edits) ≡ None
  pub named : status ≡ INVALID
      → NamesUnreadable source edits detail ⊎ NamesFault source edits detail
  pub none_named : status ≤ OUT_OF_MEMORY → detail ≡ no_detail
  pub is_status : (status ≤ OUT_OF_MEMORY) ⊎ (status ≡ INVALID)
