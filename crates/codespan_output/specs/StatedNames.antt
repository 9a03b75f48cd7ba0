-- The laws of stated names: where the files state their names, an output is the picture.
use Rattle.std.specs.Prelude.{◌≡◌, List, ◌∷◌, ◌++◌, flat_map, Contains, IsSome}
use Rattle.std.specs.Prelude.{Some, length, take, Bool, ◌&&◌, map, is_none, take_while}
use Rattle.codespan_output.specs.Types.{Diagnostic, Error, Config, DisplayStyle, Short}
use Rattle.codespan_core.specs.FileModel.{FileDatabase}
use Rattle.codespan_output.specs.Lookups.{AllSucceed, first_error, header_lookups_of, Failures}
use Rattle.codespan_output.specs.OutputStreams.{AreLoci, labels_of, output}
use Rattle.codespan_output.specs.Picture.{headers_at, picture, stated_locus}
use Rattle.codespan_output.specs.Rows.{Locus}
use Rattle.codespan_output.specs.Snippets.{LabelInFile, primary_of}
use Rattle.codespan_core.specs.FileModel.Lookup.{Name, LocationAt}
use Rattle.codespan_core.specs.Streams.{Stream}

-- the primary labels before the first one for which a lookup fails
abbrev pub labels_before_failure : {Id : Type 0} → Failures Id → List (LabelInFile Id)
    → List (LabelInFile Id)
labels_before_failure {Id} failure xs = take_while lookup_succeeds (primary_of xs)
  where
    lookup_succeeds : LabelInFile Id → Bool
    lookup_succeeds x =
        is_none (failure x.file_id Name) && is_none (failure x.file_id (LocationAt x.label.start))

module _ {Id : Type 0} (files : FileDatabase Id) (d : Diagnostic Id) where
  -- the names of the labels' files are stated
  abbrev pub NamesAreStated : Type 0
  NamesAreStated = (x : LabelInFile Id) → Contains (labels_of d) x
      → IsSome (files.file x.file_id).name

  -- the output with any loci is the picture
  abbrev pub OutputIsPicture : Type 0
  OutputIsPicture = NamesAreStated
      → (display_style : DisplayStyle) (renderer_config view_config : Config) (loci : List Locus)
      → AreLoci files d display_style loci
      → output display_style renderer_config view_config files d loci
      ≡ picture display_style renderer_config view_config files d

  -- the headers of the primary labels before the first one for which a lookup fails: what short
  -- and medium style have written when it fails
  abbrev pub headers_before_failure : Config → Stream
  headers_before_failure config =
      headers_at config d
      (map (λ (x : LabelInFile Id). stated_locus (files.file x.file_id, x.label.start))
      (labels_before_failure files.failure (labels_of d)))

  -- where a lookup of a primary label fails, and none of those of the primary labels before it, the
  -- headers of these labels are `headers_before_failure`
  abbrev pub HeadersAreBeforeFailure : Type 0
  HeadersAreBeforeFailure = NamesAreStated
      → (config : Config) (loci : List Locus) → AreLoci files d Short loci
      → (before : List (LabelInFile Id)) (here : LabelInFile Id) (after : List (LabelInFile Id))
      → before ++ here ∷ after ≡ primary_of (labels_of d)
      → AllSucceed files.failure (flat_map header_lookups_of before)
      → (e : Error) → first_error files.failure (header_lookups_of here) ≡ Some e
      → headers_at config d (take (length before) loci)
      ≡ headers_before_failure config
