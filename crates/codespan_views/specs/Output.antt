-- What the calls that return the text of a diagnostic or append it to a string do.
use Rattle.std.specs.Prelude.{◌≡◌, ℕ, ◌⊎◌, List, ◌++◌}
use Rattle.codespan_output.specs.Types.{Diagnostic, Error, OutOfMemory, Config, DisplayStyle}
use Rattle.codespan_core.specs.FileModel.{FileDatabase}
use Rattle.codespan_core.specs.Streams.{Stream, text_of}
use Rattle.codespan_output.specs.RichLaws.{IsOutput, MeansLabels}
use Rattle.codespan_output.specs.OutputStreams.{NamesAreUtf8}
use Rattle.codespan_output.specs.Rows.{Locus}
use Rattle.codespan_output.specs.Lookups.{AllSucceed, IsLookupError, lookups_in}

module _ {Id : Type 0} (config : Config) (files : FileDatabase Id) (d : Diagnostic Id) where
  -- no lookup failed, and each name is a text
  pub record Succeeds (style : DisplayStyle) (loci : List Locus) : Type 0 where
    pub lookups_succeed : AllSucceed files.failure (lookups_in style config files d)
    pub names_are_utf8 : NamesAreUtf8 loci

  -- the text is that of the output, in the configuration's style, and no lookup failed
  pub record IsRendered (text : List ℕ) : Type 0 where
    pub stream : Stream
    pub is_output : IsOutput config.display_style config config files d stream
    pub text_is : text ≡ text_of stream
    pub succeeds : Succeeds config.display_style is_output.loci

  -- the text is that of a rich output, which means the labels
  abbrev pub TextMeansLabels : List ℕ → Type 0
  TextMeansLabels text = (stream : Stream) × (text ≡ text_of stream)
      × (loci : List Locus) × MeansLabels config config files d loci stream

  -- the error is `OutOfMemory`, or one of lookups
  abbrev pub IsEmitError : Error → Type 0
  IsEmitError e =
      (e ≡ OutOfMemory) ⊎ IsLookupError files (lookups_in config.display_style config files d) e

  -- the text has been appended
  abbrev pub IsAppended : List ℕ → List ℕ → Type 0
  IsAppended old new = (text : List ℕ) × (new ≡ old ++ text) × IsRendered text
