-- What an error of a call that emits a diagnostic means: which lookup failed first, and what has
-- been written by then.
use Rattle.std.specs.Prelude.{◌≡◌, ◌⊎◌, List, ◌∷◌, ◌++◌, flat_map, length}
use Rattle.std.specs.Prelude.{take, Some, Contains}
use Rattle.codespan_output.specs.Types.{Diagnostic, Error, FormatError, Config, DisplayStyle, Rich}
use Rattle.codespan_output.specs.Types.{Medium, Short}
use Rattle.codespan_core.specs.Errors.{IsIo}
use Rattle.codespan_core.specs.FileModel.{FileDatabase, Lookup}
use Rattle.codespan_output.specs.Lookups.{AllSucceed, IsLookupError, early_lookups, first_error}
use Rattle.codespan_output.specs.Lookups.{header_lookups_of, late_lookups, lookups_in}
use Rattle.codespan_output.specs.OutputStreams.{labels_of}
use Rattle.codespan_output.specs.Rows.{Locus}
use Rattle.codespan_output.specs.Snippets.{LabelInFile, primary_of}

-- one of these lookups fails with this error
pub record FailsWith {Id : Type 0} (files : FileDatabase Id) (lookups : List (Id × Lookup))
    (error : Error) : Type 0 where
  pub file_id : Id
  pub lookup : Lookup
  pub is_made : Contains lookups (file_id, lookup)
  pub fails : files.failure file_id lookup ≡ Some error

-- one of these lookups fails
abbrev pub SomeFails : {Id : Type 0} → FileDatabase Id → List (Id × Lookup) → Type 0
SomeFails files lookups = (error : Error) × FailsWith files lookups error

-- ---- what has been written by then: `nothing_written` says that nothing has, and `Wrote loci`
-- that the headers with these loci have, and nothing else

module _ {Id : Type 0} (view_config : Config) (files : FileDatabase Id) (d : Diagnostic Id)
    (loci : List Locus) (nothing_written : Type 0) (Wrote : List Locus → Type 0) (e : Error) where
  -- in short and medium style a lookup for the header of a primary label fails, and the headers of
  -- the labels before it have been written, whole
  pub record FailsAtLabel : Type 0 where
    pub before : List (LabelInFile Id)
    pub here : LabelInFile Id
    pub after : List (LabelInFile Id)
    pub whole : before ++ here ∷ after ≡ primary_of (labels_of d)
    pub succeed : AllSucceed files.failure (flat_map header_lookups_of before)
    pub fails : IsLookupError files (header_lookups_of here) e
    pub wrote : Wrote (take (length before) loci)

  -- what has been written where the error is one of lookups: in rich style nothing where it is
  -- `FormatError`, unless that is the error of the first lookup after the header that fails
  abbrev pub WrittenBefore : DisplayStyle → Type 0
  WrittenBefore Rich =
      e ≡ FormatError
      → nothing_written
      ⊎ (first_error files.failure (late_lookups files (labels_of d) view_config) ≡ Some e)
  WrittenBefore Medium = FailsAtLabel
  WrittenBefore Short = FailsAtLabel

  -- the call fails: with `Io`, and then the writer has failed, or with an error of lookups, and
  -- then it has not; in rich style nothing has been written where a lookup before the header fails
  pub record FailsAs (style : DisplayStyle) (writer_failed writer_not_failed : Type 0)
      : Type 0 where
    pub error_is : (IsIo e × writer_failed)
        ⊎ (writer_not_failed × IsLookupError files (lookups_in style view_config files d) e
        × WrittenBefore style)
    pub early : style ≡ Rich
        → SomeFails files (early_lookups files (labels_of d) view_config) → nothing_written
