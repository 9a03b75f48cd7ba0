-- The bytes of the output that the structs of C describe, and what it means.
use Rattle.std.specs.Prelude.{◌≡◌, ℕ, List}
use Rattle.codespan_base.specs.Diagnostics.{diagnostic_view}
use Rattle.codespan_base.specs.ConfigEquality.{IsEqualConfig}
use Rattle.codespan_base.specs.Streams.{Stream}
use Rattle.codespan_base.specs.declared.diagnostic.Diagnostic.{Diagnostic}
use Rattle.codespan_base.specs.declared.term.config.Config.{Config}
use Rattle.codespan_base.specs.declared.term.config.DisplayStyle.TheVariants.{Rich}
use Rattle.codespan_output.specs.RichLaws.{IsOutput}
use Rattle.codespan_output.specs.Lookups.{AllSucceed, lookups_in}
use Rattle.codespan_output.specs.Picture.{picture_of_diagnostic_view}
use Rattle.codespan_native.specs.declared.raw.RawConfig.{RawConfig}
use Rattle.codespan_native.specs.declared.raw.RawDiagnostic.{RawDiagnostic}
use Rattle.codespan_native.specs.declared.raw.RawFile.{RawFile}
use Rattle.codespan_native.specs.Converted.{converted_diagnostic, converted_config, converted_files}
use Rattle.codespan_native.specs.Converted.{form_of}
use Rattle.codespan_native.specs.Forms.{bytes_in_form}

-- the output that the structs describe
abbrev pub output_stream : List RawFile → RawDiagnostic → RawConfig → Stream
output_stream files diagnostic config =
    let database = converted_files files in
    picture_of_diagnostic_view (converted_config config) database.same database.file
    (converted_diagnostic files diagnostic)

-- its bytes, in the form of the configuration
unfoldable pub output_bytes : List RawFile → RawDiagnostic → RawConfig → List ℕ
output_bytes files diagnostic config =
    bytes_in_form (form_of config) (output_stream files diagnostic config)

-- this output is the rich one of the Rust values for which the structs stand, and means their
-- labels, as `IsOutput` says
pub record Means (files : List RawFile) (diagnostic : RawDiagnostic) (config : RawConfig)
    : Type 0 where
  pub d : Diagnostic ℕ
  pub c : Config
  pub is_diagnostic : diagnostic_view d ≡ converted_diagnostic files diagnostic
  pub is_config : IsEqualConfig (converted_config config) c
  pub is_output :
      IsOutput Rich c c (converted_files files) d (output_stream files diagnostic config)

-- no lookup of the rendering fails, whatever the configuration is, and for each `Diagnostic` of
-- Rust that the struct stands for
abbrev pub NoLookupFails : List RawFile → RawDiagnostic → Type 0
NoLookupFails files diagnostic =
    (d : Diagnostic ℕ) (config : Config)
    → diagnostic_view d ≡ converted_diagnostic files diagnostic
    → AllSucceed (converted_files files).failure
    (lookups_in config.display_style config (converted_files files) d)
