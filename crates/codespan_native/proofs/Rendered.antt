-- What is rendered, for the clauses of `render` and of `output_of`.
use Rattle.std.proofs.Common.{◌≡◌, ℕ, true, List, ◌++◌, map, IsSome, None, Some}
use Rattle.std.proofs.Common.{Result, Ok, Err, OnOk, IfOk, Vec, Global, refl, sym, subst, ◌∙◌}
use Rattle.std.proofs.Common.{ap}
use Rattle.std.specs.List.{slice_get}
use Rattle.std.specs.Option.{option_map_or}
use Rattle.codespan_base.specs.declared.diagnostic.Diagnostic.{Diagnostic}
use Rattle.codespan_base.specs.declared.files.Error.{Error}
use Rattle.codespan_base.specs.declared.term.config.Config.{Config}
use Rattle.codespan_base.specs.declared.term.config.DisplayStyle.TheVariants.{Rich}
use Rattle.codespan_base.specs.Diagnostics.{DiagnosticView, diagnostic_view}
use Rattle.codespan_base.specs.ConfigEquality.{IsEqualConfig}
use Rattle.codespan_base.specs.SimpleModel.{missing_file}
use Rattle.codespan_base.specs.Streams.{Spelling, Stream, spelled, text_of}
use Rattle.codespan_base.specs.WriterLaw.{Sink, is_known, with_written, are_known, extended}
use Rattle.codespan_base.specs.Writers.{fresh_sink}
use Rattle.codespan_output.specs.RichLaws.{IsOutput}
use Rattle.codespan_output.specs.StatedNames.{NamesAreStated}
use Rattle.codespan_output.specs.Picture.{picture_of_diagnostic_view}
use Rattle.codespan_views.specs.Output.{IsRendered}
use Rattle.codespan_views.specs.WriteCalls.{WritesStyled}
use Rattle.codespan_output.proofs.Outputs.StatedNames.{output_stated}
use Rattle.codespan_output.proofs.Outputs.ViewPictures.{picture-of_view}
use Rattle.codespan_styled.specs.Outputs.{AreRuns}
use Rattle.codespan_styled.specs.Runs.{RunView, runs_of}
use Rattle.codespan_native.specs.declared.convert.forms.Form.{Form}
use Rattle.codespan_native.specs.declared.error.OutOfMemory.{OutOfMemory}
use Rattle.codespan_native.specs.declared.raw.RawConfig.{RawConfig}
use Rattle.codespan_native.specs.declared.raw.RawDiagnostic.{RawDiagnostic}
use Rattle.codespan_native.specs.declared.raw.RawFile.{RawFile}
use Rattle.codespan_native.specs.Meaning.{Means, output_bytes, output_stream}
use Rattle.codespan_native.specs.Converted.{converted_config, display_style_of, converted_file}
use Rattle.codespan_native.specs.Converted.{converted_files, form_of, converted_diagnostic}
use Rattle.codespan_native.specs.Forms.{bytes_in_form}
use Rattle.codespan_native.specs.SourceTexts.{NativeFileView, native_database, native_file_model}
use Rattle.codespan_native.specs.RenderedStreams.{AreOutputRuns, IsFormedOutput, StreamIsOutput}
use Rattle.codespan_native.specs.RenderedStreams.{stream_of_output}

-- the names of the files are stated
pub stated : (ss : List NativeFileView) (d : Diagnostic ℕ)
    → NamesAreStated (native_database ss) d
stated ss d x contains = named x.file_id
  where
    named : (id : ℕ) → IsSome ((native_database ss).file id).name
    named id =
        elim (slice_get ss id) as (λ found. IsSome
        (option_map_or native_file_model found missing_file).name)
        [ None ↦ refl | Some s ↦ refl ]

module _ (config : Config) (ss : List NativeFileView) (d : Diagnostic ℕ) where
  -- an output of these files is the one with these names
  output_is_stream : {stream : Stream}
      (output : IsOutput config.display_style config config (native_database ss) d stream)
      → stream ≡ stream_of_output config ss d
  output_is_stream output =
      output.stream_is
      ∙ output_stated (native_database ss) d (stated ss d) config.display_style config config
      output.loci output.are_loci

  -- so this one is an output
  stream_output : {stream : Stream}
      → IsOutput config.display_style config config (native_database ss) d stream
      → StreamIsOutput config ss d
  stream_output output =
      subst (IsOutput config.display_style config config (native_database ss) d)
      (output_is_stream output) output

  -- a writer receives it
  pub written_stream : (old new : Sink) (r : Result (Unit {0}) Error)
      → WritesStyled config.display_style config config (native_database ss) d old r new
      → is_known old ≡ true → OnOk r (new ≡ with_written old (stream_of_output config ss d))
  written_stream old new (Ok done) writes known =
      writes.received known ∙ ap (with_written old) (output_is_stream writes.is_output)
  written_stream old new (Err error) writes known = tt

  -- and it is an output
  pub stream_is_output : {old new : Sink} {r : Result (Unit {0}) Error}
      → WritesStyled config.display_style config config (native_database ss) d old r new
      → StreamIsOutput config ss d
  stream_is_output writes = stream_output writes.is_output

  -- the runs of an output are those of that one
  pub output_runs : {runs : List RunView} → AreRuns config (native_database ss) d runs
      → AreOutputRuns config ss d runs
  output_runs are = record {
    runs_are = are.runs_are ∙ ap runs_of (output_is_stream are.is_output);
    is_output = stream_output are.is_output;
  }

  -- bytes that are made of these runs are the output in a form
  pub formed_runs : (form : Form) (of : List RunView → List ℕ)
      → bytes_in_form form ≡ (λ stream. of (runs_of stream))
      → {runs : List RunView} {bytes : List ℕ} → AreOutputRuns config ss d runs
      → bytes ≡ of runs → IsFormedOutput config ss d form bytes
  formed_runs form of is {runs} {bytes} are made = record {
    value =
        made ∙ ap of are.runs_are
        ∙ sym (ap (λ (f : Stream → List ℕ). f (stream_of_output config ss d)) is);
    is_output = are.is_output;
  }

  -- the text of an output is that of that one
  pub text_is_output : {text : List ℕ} → IsRendered config (native_database ss) d text
      → text ≡ text_of (stream_of_output config ss d)
  text_is_output rendered = rendered.text_is ∙ ap text_of (output_is_stream rendered.is_output)

  pub text_output : {text : List ℕ} → IsRendered config (native_database ss) d text
      → StreamIsOutput config ss d
  text_output rendered = stream_output rendered.is_output

-- a fresh writer over some bytes holds after them the stream that was written
pub text_after : (spelling : Spelling) (old new : Sink) (stream : Stream) (first last : List ℕ)
    → old ≡ fresh_sink spelling (Some first) → new ≡ with_written old stream
    → new.contents ≡ Some last → last ≡ first ++ spelled spelling stream
unfolding with_written extended
text_after spelling old new stream first last fresh written contents =
    let both : Some last ≡ extended old.contents (spelled old.frame.spelling stream) =
    sym contents ∙ ap (λ (s : Sink). s.contents) written in
    let is : Some last ≡ Some (first ++ spelled spelling stream) =
    both ∙ ap (λ (s : Sink). extended s.contents (spelled s.frame.spelling stream)) fresh in
    cc is

-- the bytes of a fresh writer are known
pub fresh_known : (spelling : Spelling) (old : Sink) (first : List ℕ)
    → old ≡ fresh_sink spelling (Some first) → is_known old ≡ true
unfolding is_known are_known
fresh_known spelling old first fresh = ap (λ (s : Sink). is_known s) fresh

-- the output of a configuration, of files and of a diagnostic is that of what they stand for
pub output_is : (expected config : Config) (ss ts : List NativeFileView) (d : Diagnostic ℕ)
    (v : DiagnosticView ℕ) → IsEqualConfig expected config → ss ≡ ts
    → diagnostic_view d ≡ v
    → stream_of_output config ss d
    ≡ picture_of_diagnostic_view expected (native_database ts).same
    (native_database ts).file v
output_is expected config ss ts d v alike same viewed =
    picture-of_view expected config (native_database ss) d alike
    ∙ ap
    (λ ss. picture_of_diagnostic_view expected (native_database ss).same (native_database ss).file
    (diagnostic_view d))
    same
    ∙ ap (λ v. picture_of_diagnostic_view expected (native_database ts).same
    (native_database ts).file v)
    viewed

-- the bytes that are rendered are those that the structs describe
pub bytes_are : (form : Form) (config : Config) (ss : List NativeFileView)
    (d : Diagnostic ℕ)
    (files : List RawFile) (diagnostic : RawDiagnostic) (raw : RawConfig) (bytes : List ℕ)
    → bytes ≡ bytes_in_form form (stream_of_output config ss d) → form ≡ form_of raw
    → IsEqualConfig (converted_config raw) config → ss ≡ map converted_file files
    → diagnostic_view d ≡ converted_diagnostic files diagnostic
    → bytes ≡ output_bytes files diagnostic raw
unfolding output_bytes
bytes_are form config ss d files diagnostic raw bytes are forms alike same viewed =
    are
    ∙ ap (λ f. bytes_in_form f (stream_of_output config ss d)) forms
    ∙ ap (λ stream. bytes_in_form (form_of raw) stream)
    (output_is (converted_config raw) config ss (map converted_file files) d
    (converted_diagnostic files diagnostic) alike same viewed)

-- the same of a call that returns the bytes
pub result_is : (form : Form) (config : Config) (ss : List NativeFileView)
    (d : Diagnostic ℕ)
    (files : List RawFile) (diagnostic : RawDiagnostic) (raw : RawConfig)
    (r : Result (Vec ℕ Global) OutOfMemory)
    → IfOk r (λ output. IsFormedOutput config ss d form output.items)
    → form ≡ form_of raw → IsEqualConfig (converted_config raw) config
    → ss ≡ map converted_file files
    → diagnostic_view d ≡ converted_diagnostic files diagnostic
    → IfOk r (λ output. output.items ≡ output_bytes files diagnostic raw)
result_is form config ss d files diagnostic raw (Ok output) rendered forms alike same viewed =
    bytes_are form config ss d files diagnostic raw output.items rendered.value forms alike
    same viewed
result_is form config ss d files diagnostic raw (Err e) rendered forms alike same viewed = tt

-- what the output means, of the structs
pub means_is : (form : Form) (config : Config) (ss : List NativeFileView)
    (d : Diagnostic ℕ)
    (files : List RawFile) (diagnostic : RawDiagnostic) (raw : RawConfig)
    (r : Result (Vec ℕ Global) OutOfMemory)
    → IfOk r (λ output. IsFormedOutput config ss d form output.items)
    → IsEqualConfig (converted_config raw) config → ss ≡ map converted_file files
    → diagnostic_view d ≡ converted_diagnostic files diagnostic
    → IfOk r (λ _. raw.display_style ≡ 0 → Means files diagnostic raw)
means_is form config ss d files diagnostic raw (Ok output) rendered alike same viewed =
    λ zero_style.
    let rich : config.display_style ≡ Rich =
    ap (λ (c : Config). c.display_style) alike.others ∙ ap display_style_of zero_style in
    let v = converted_diagnostic files diagnostic in
    let stream = output_stream files diagnostic raw in
    record {
      d = d;
      c = config;
      is_diagnostic = viewed;
      is_config = alike;
      is_output =
          subst (λ style. IsOutput style config config (converted_files files) d stream) rich
          (subst (λ ts. IsOutput config.display_style config config (native_database ts) d stream)
          same
          (subst (IsOutput config.display_style config config (native_database ss) d)
          (output_is (converted_config raw) config ss (map converted_file files) d v alike same
          viewed)
          rendered.is_output));
    }
means_is form config ss d files diagnostic raw (Err e) rendered alike same viewed = tt
