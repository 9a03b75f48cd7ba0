-- The runs that a writer received are those of the output, and which errors are of lookups: for
-- `styled_text`.
use Rattle.std.proofs.Common.{◌≡◌, ℕ, true, false, List, [], ◌∷◌, ◌++◌}
use Rattle.std.proofs.Common.{Result, Ok, Err, inl, inr, ⊎_elim, sym, ap, subst, ◌∙◌}
use Rattle.std.proofs.Common.{true≢false}
use Rattle.std.specs.Prelude.{IfErr, IfOk}
use Rattle.std.specs.Str.{IsUtf8}
use Rattle.codespan_base.specs.declared.diagnostic.Diagnostic.{Diagnostic}
use Rattle.codespan_base.specs.declared.files.Error.{Error}
use Rattle.codespan_base.specs.declared.files.Error.TheVariants.{OutOfMemory}
use Rattle.codespan_base.specs.declared.term.config.Config.{Config}
use Rattle.codespan_base.specs.FileModel.{FileDatabase}
use Rattle.codespan_base.specs.LawfulFiles.{IsLawful}
use Rattle.codespan_base.specs.Streams.{Stream, Byte, Mark, Slot, text_of}
use Rattle.codespan_base.specs.WriterLaw.{Frame, Sink, are_known, is_known, with_written}
use Rattle.codespan_base.specs.declared.term.config.style_mark.StyleMark.{StyleMark}
use Rattle.codespan_base.specs.declared.term.config.style_mark.StyleMark.TheVariants.{Reset}
use Rattle.codespan_output.specs.Utf8Laws.{CharsAreScalars, AreUtf8After}
use Rattle.codespan_views.specs.Output.{IsEmitError}
use Rattle.codespan_views.specs.WriteCalls.{WritesStyled}
use Rattle.codespan_output.proofs.Utf8.Outputs.{text-output}
use Rattle.codespan_styled.specs.declared.text.StyledText.{StyledText}
use Rattle.codespan_styled.specs.Recorders.{AreBytes, new_recorder_sink}
use Rattle.codespan_styled.specs.Runs.{RunView, TextsAreUtf8, joined, runs_from, runs_of}
use Rattle.codespan_styled.specs.Runs.{styled_runs}
use Rattle.codespan_styled.proofs.Bytes.{utf8-bytes}
use Rattle.codespan_styled.proofs.Decoding.{joined_runs}
use Rattle.codespan_styled.specs.Outputs.{AreRuns, RunsAreUtf8, output_at}

module _ {Id : Type 0} {config : Config} {files : FileDatabase Id} {d : Diagnostic Id} where
  -- the runs of what was rendered to a new writer are those of the output
  pub runs_rendered : {old new : Sink} (runs : List RunView)
      → WritesStyled config.display_style config config files d old (Ok tt) new
      → old ≡ new_recorder_sink
      → CharsAreScalars config.chars → ((id : Id) → IsLawful (files.file id))
      → ((s : Stream) → new ≡ with_written new_recorder_sink s → AreBytes (text_of s)
      → runs ≡ runs_of s)
      → AreRuns config files d runs
  unfolding is_known are_known
  runs_rendered {old} {new} runs rendered fresh characters lawful are =
      let stream : Stream = rendered.stream in
      let utf8 : IsUtf8 (text_of stream) = subst (λ s. IsUtf8 (text_of s))
      (sym rendered.is_output.stream_is)
      (text-output files d lawful config.display_style config config characters
      rendered.is_output.loci rendered.on_end.1.names_are_utf8).utf8 in
      let received : new ≡ with_written new_recorder_sink stream =
      rendered.received (ap is_known fresh) ∙ ap (λ (x : Sink). with_written x stream) fresh in
      let same : runs ≡ runs_of stream = are stream received (utf8-bytes _ utf8) in
      record {
        stream = stream;
        is_output = rendered.is_output;
        runs_are = same;
        text_is = ap joined same ∙ joined_runs stream;
        succeeds = rendered.on_end.1;
      }

  -- the same of what the writer returns
  pub runs_emitted : {old new : Sink} (r : Result StyledText Error)
      → WritesStyled config.display_style config config files d old (Ok tt) new
      → old ≡ new_recorder_sink
      → CharsAreScalars config.chars → ((id : Id) → IsLawful (files.file id))
      → IfOk r
      (λ text. (s : Stream) → new ≡ with_written new_recorder_sink s → AreBytes (text_of s)
      → styled_runs text ≡ runs_of s)
      → IfOk r (λ text. AreRuns config files d (styled_runs text))
  runs_emitted (Ok text) rendered fresh characters lawful are =
      runs_rendered (styled_runs text) rendered fresh characters lawful are
  runs_emitted (Err e) rendered fresh characters lawful are = tt

  -- an error of a writer that has not failed is one of lookups
  pub error_emitted : {old new : Sink} (e : Error)
      → WritesStyled config.display_style config config files d old (Err e) new
      → new.frame.failed ≡ false → IsEmitError config files d e
  error_emitted {old} {new} e rendered not_failed =
      ⊎_elim
      (λ own. absurd (true≢false (sym (ap (λ (f : Frame). f.failed) own.1) ∙ not_failed)))
      (λ found. inr found.1) rendered.on_end.error_is

-- where it returns an error instead, that is `OutOfMemory`, which is one of emitting
pub memory_error : {Id : Type 0} (config : Config) (files : FileDatabase Id) (d : Diagnostic Id)
    (r : Result StyledText Error)
    → IfErr r (λ e. e ≡ OutOfMemory) → IfErr r (IsEmitError config files d)
memory_error config files d (Ok text) is = tt
memory_error config files d (Err e) is = inl is

-- ---- texts

-- the runs of a text are texts
runs-texts : (style : StyleMark) (text : List ℕ) (s : Stream) → AreUtf8After text s
    → TextsAreUtf8 (runs_from style text s)
runs-texts style text [] h = (h, tt)
runs-texts style text (Byte b ∷ s) h = runs-texts style (text ++ b ∷ []) s h
runs-texts style text (Mark m ∷ s) h = (h.0, runs-texts m [] s h.1)
runs-texts style text (Slot k ∷ s) h = runs-texts style text s h

-- so are those of an output
pub runs_are_utf8 : {Id : Type 0} (config : Config) (files : FileDatabase Id) (d : Diagnostic Id)
    → RunsAreUtf8 config files d
runs_are_utf8 config files d characters lawful loci named =
    runs-texts Reset [] (output_at config files d loci)
    (text-output files d lawful config.display_style config config characters loci
    named).between_style_marks
