-- What the call that returns the runs of a diagnostic's output does.
use Rattle.std.specs.Prelude.{◌≡◌, List}
use Rattle.codespan_output.specs.Types.{Diagnostic, Config}
use Rattle.codespan_base.specs.FileModel.{FileDatabase}
use Rattle.codespan_base.specs.LawfulFiles.{IsLawful}
use Rattle.codespan_base.specs.Streams.{Stream, text_of}
use Rattle.codespan_output.specs.RichLaws.{IsOutput}
use Rattle.codespan_output.specs.Utf8Laws.{CharsAreScalars}
use Rattle.codespan_output.specs.OutputStreams.{NamesAreUtf8, output}
use Rattle.codespan_output.specs.Rows.{Locus}
use Rattle.codespan_views.specs.Output.{Succeeds}
use Rattle.codespan_styled.specs.Runs.{TextsAreUtf8, RunView, joined, runs_of}

module _ {Id : Type 0} (config : Config) (files : FileDatabase Id) (d : Diagnostic Id) where
  -- the output with these loci, in the configuration's style
  abbrev pub output_at : List Locus → Stream
  output_at loci = output config.display_style config config files d loci

  -- the runs are those of the output; their texts, one after another, are its plain text
  pub record AreRuns (runs : List RunView) : Type 0 where
    pub stream : Stream
    pub is_output : IsOutput config.display_style config config files d stream
    pub runs_are : runs ≡ runs_of stream
    pub text_is : joined runs ≡ text_of stream
    pub succeeds : Succeeds config files d config.display_style is_output.loci

  -- the runs of the output are texts, where the characters of the configuration are Unicode scalar
  -- values, its files are lawful, and the names of the loci are texts: no style mark is inside a
  -- character
  abbrev pub RunsAreUtf8 : Type 0
  RunsAreUtf8 = CharsAreScalars config.chars → ((id : Id) → IsLawful (files.file id))
      → (loci : List Locus) → NamesAreUtf8 loci → TextsAreUtf8 (runs_of (output_at loci))
