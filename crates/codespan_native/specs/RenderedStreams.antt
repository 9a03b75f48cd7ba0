-- What the Rust values of a configuration, files and a diagnostic render.
use Rattle.std.specs.Prelude.{◌≡◌, ℕ, List}
use Rattle.codespan_base.specs.declared.diagnostic.Diagnostic.{Diagnostic}
use Rattle.codespan_base.specs.declared.term.config.Config.{Config}
use Rattle.codespan_base.specs.Streams.{Stream}
use Rattle.codespan_output.specs.RichLaws.{IsOutput}
use Rattle.codespan_output.specs.Picture.{picture}
use Rattle.codespan_styled.specs.Runs.{RunView, runs_of}
use Rattle.codespan_native.specs.declared.convert.forms.Form.{Form}
use Rattle.codespan_native.specs.Forms.{bytes_in_form}
use Rattle.codespan_native.specs.SourceTexts.{NativeFileView, native_database}

module _ (config : Config) (files : List NativeFileView) (d : Diagnostic ℕ) where
  -- the output of a diagnostic over files, with the names that the files have
  abbrev pub stream_of_output : Stream
  stream_of_output = picture config.display_style config config (native_database files) d

  -- this stream is an output, and so in rich style means the labels
  abbrev pub StreamIsOutput : Type 0
  StreamIsOutput =
      IsOutput config.display_style config config (native_database files) d stream_of_output

  -- the bytes are the output in a form
  pub record IsFormedOutput (form : Form) (bytes : List ℕ) : Type 0 where
    pub value : bytes ≡ bytes_in_form form stream_of_output
    pub is_output : StreamIsOutput

  -- the runs are those of the output
  pub record AreOutputRuns (runs : List RunView) : Type 0 where
    pub runs_are : runs ≡ runs_of stream_of_output
    pub is_output : StreamIsOutput
