-- What the calls that write a diagnostic do: those that write plain text, and those that write to a
-- writer of styles. `EmitErrors` says what an error means.
use Rattle.std.specs.Prelude.{◌≡◌, true, ℕ, List, Option, Result, MatchResult}
use Rattle.codespan_output.specs.Types.{Diagnostic, Error, Config, DisplayStyle}
use Rattle.codespan_core.specs.FileModel.{FileDatabase}
use Rattle.codespan_core.specs.Streams.{Stream, text_of}
use Rattle.codespan_core.specs.WriterLaw.{AppendsBytes, WritesOrPrefix, Sink, extended, is_known}
use Rattle.codespan_core.specs.WriterLaw.{failed_frame, with_written, are_known}
use Rattle.codespan_output.specs.RichLaws.{IsOutput}
use Rattle.codespan_output.specs.Picture.{headers_at}
use Rattle.codespan_views.specs.EmitErrors.{FailsAs}
use Rattle.codespan_views.specs.Output.{Succeeds}

module _ {Id : Type 0} (config : Config) (files : FileDatabase Id) (d : Diagnostic Id) where
  -- the call writes the text of the output, and where it fails a prefix of it, to a writer that
  -- holds these bytes, where they are known
  pub record WritesText (old : Option (List ℕ)) (r : Result (Unit {0}) Error)
      (new : Option (List ℕ))
      : Type 0 where
    pub stream : Stream
    pub is_output : IsOutput config.display_style config config files d stream
    pub received : AppendsBytes old (text_of stream) r new
    pub on_end :
        MatchResult r (λ _. Succeeds config files d config.display_style is_output.loci)
        (λ e. FailsAs config files d is_output.loci
        (new ≡ old)
        (λ written_loci. are_known old ≡ true
        → new ≡ extended old (text_of (headers_at config d written_loci)))
        e config.display_style (Unit {0}) (Unit {0}))

module _ {Id : Type 0} (style : DisplayStyle) (renderer_config view_config : Config)
    (files : FileDatabase Id) (d : Diagnostic Id) where
  -- the call writes the output, and where it fails a prefix of it, to a writer of styles; the
  -- frame, which is all of the writer but its bytes, is unchanged, but that the writer has failed
  -- where the error is its own
  pub record WritesStyled (old : Sink) (r : Result (Unit {0}) Error) (new : Sink) : Type 0 where
    pub stream : Stream
    pub is_output : IsOutput style renderer_config view_config files d stream
    pub received : WritesOrPrefix old stream r new
    pub on_end :
        MatchResult r
        (λ _. (new.frame ≡ old.frame) × Succeeds view_config files d style is_output.loci)
        (λ e. FailsAs view_config files d is_output.loci
        (new ≡ old)
        (λ written_loci. is_known old ≡ true
        → new ≡ with_written old (headers_at renderer_config d written_loci))
        e style (new.frame ≡ failed_frame old.frame) (new.frame ≡ old.frame))
